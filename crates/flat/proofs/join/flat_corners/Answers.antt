use native.Mathlib.Omega.{arith}
use Rattle.face.specs.Face.{count_on}
use Rattle.flat.proofs.Squeeze.{some_less, corners_less}
use Rattle.flat.proofs.join.flat_corners.Goals as goal

pub returns-in-None : goal.returns-in-None
returns-in-None c = corners_less _ _ _ c.in-None.ensures.value (omega arith) (omega arith) (omega arith) c.corners_of.ensures

pub less_at-x-requires : goal.less_at-x-requires
unfolding count_on
less_at-x-requires c = some_less _ _ _ c.in-Some.ensures.value 0 (omega arith)

pub less_at-y-requires : goal.less_at-y-requires
unfolding count_on
less_at-y-requires c = some_less _ _ _ c.in-Some.ensures.value 1 (omega arith)

pub less_at-z-requires : goal.less_at-z-requires
unfolding count_on
less_at-z-requires c = some_less _ _ _ c.in-Some.ensures.value 2 (omega arith)

pub returns-in-Some : goal.returns-in-Some
returns-in-Some c = corners_less _ _ _ c.in-Some.ensures.value c.less_at-x.ensures c.less_at-y.ensures c.less_at-z.ensures c.corners_of-in-Some.ensures
