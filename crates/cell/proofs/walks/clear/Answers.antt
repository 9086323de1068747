use native.Mathlib.Omega.{arith}
use lib.ListN.{length-take}
use Rattle.cell.proofs.Using.{cleared}
use Rattle.cell.proofs.walks.clear.Goals as goal

pub returns : goal.returns
returns c = cleared _ _ _ c.requires (simp length-take (omega arith)) (c.fill.ensures.after (λ y e. e))
