use native.Mathlib.Omega.{arith}
use mathlib.Core.Path.{sym, ◌∙◌}
use Rattle.cell.proofs.Fans.{no-fans}
use Rattle.cell.proofs.Using.{used_none}
use Rattle.cell.proofs.middles.fans_in.Goals as goal

pub returns-then-n-eq0 : goal.returns-then-n-eq0
returns-then-n-eq0 c = record { value = (no-fans _ (sym c.requires.all ∙ c.if-n-eq0.true), omega arith); used = used_none _ _ _ _ }
