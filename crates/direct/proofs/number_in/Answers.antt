use Rattle.direct.proofs.Numbers.{in_falls, in_rises}
use native.Mathlib.Omega.{arith}
use Rattle.direct.proofs.number_in.Goals as goal

pub overflow_sub-result : goal.overflow_sub-result
overflow_sub-result c = omega (arith, c.requires.low c.if-r.true)

pub returns-then-r : goal.returns-then-r
returns-then-r c = in_falls _ _ c.if-r.true

pub overflow_add-result : goal.overflow_add-result
overflow_add-result c = omega (arith, c.requires.high c.if-r.false)

pub returns : goal.returns
returns c = in_rises _ _ c.if-r.false
