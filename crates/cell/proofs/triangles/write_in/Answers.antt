use native.Mathlib.Omega.{arith}
use mathlib.Core.Path.{refl, sym, ◌∙◌}
use Rattle.counting.specs.Lists.{gather}
use Rattle.cell.proofs.Cells.{no_triangles}
use Rattle.cell.proofs.Using.{used_none}
use Rattle.cell.proofs.triangles.write_in.Goals as goal

pub returns-then-n-eq0 : goal.returns-then-n-eq0
unfolding gather
returns-then-n-eq0 c = let e = no_triangles c.args.c 0 (sym c.requires.room.all ∙ c.if-n-eq0.true) in record { value = rw e (omega arith, refl); used = used_none _ _ _ _ }
