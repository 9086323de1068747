use native.Mathlib.Omega.{arith}
use Rattle.counting.specs.Lists.{total}
use Rattle.direct.proofs.all_of.Goals as goal

pub returns : goal.returns
unfolding total
returns c = omega arith
