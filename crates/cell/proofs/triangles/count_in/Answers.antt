use native.Mathlib.Omega.{arith}
use mathlib.Core.Path.{sym, ap, ◌∙◌}
use lib.ListN.{length}
use Rattle.cell.proofs.Cells.{no_triangles}
use Rattle.cell.proofs.Using.{used_none}
use Rattle.cell.proofs.triangles.count_in.Goals as goal

pub returns-then-n-eq0 : goal.returns-then-n-eq0
returns-then-n-eq0 c = let e = no_triangles _ _ (sym c.requires.all ∙ c.if-n-eq0.true) in record { value = (sym (ap length e), omega arith); used = used_none _ _ _ _ }
