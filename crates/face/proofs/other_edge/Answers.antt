use mathlib.Core.Path.{refl}
use native.Mathlib.Omega.{arith}
use Rattle.face.specs.Face.{other}
use Rattle.face.proofs.Ends.{near}
use Rattle.face.proofs.other_edge.Goals as goal

pub overflow_add-result : goal.overflow_add-result
overflow_add-result c = omega (arith, near c.requires)

pub overflow_sub-result : goal.overflow_sub-result
overflow_sub-result c = omega (arith, near c.requires)

pub returns : goal.returns
unfolding other
returns c = refl
