use native.Mathlib.Omega.{arith}
use mathlib.Core.Path.{◌∙◌}
use Rattle.split.proofs.Coded.{sum_few}
use Rattle.split.proofs.Ends.{before_at, befores_are}
use Rattle.split.proofs.Spiral.spokes_before.Goals as goal

pub returns-in-0 : goal.returns-in-0
returns-in-0 c = ((befores_are _ _).0 ∙ before_at _ _ _ 0 c.in-0.is, omega (arith, sum_few c.args.self.spiraling))

pub returns-in-1 : goal.returns-in-1
returns-in-1 c = ((befores_are _ _).1 ∙ before_at _ _ _ 1 c.in-1.is, omega (arith, sum_few c.args.self.spiraling))

pub returns-in-2 : goal.returns-in-2
returns-in-2 c = ((befores_are _ _).2 ∙ before_at _ _ _ 2 c.in-2.is, omega (arith, sum_few c.args.self.spiraling))

pub returns-in_default : goal.returns-in_default
returns-in_default c = ((befores_are _ _).3 ∙ before_at _ _ _ 3 (omega arith), omega (arith, sum_few c.args.self.spiraling))

pub overflow_mul-result : goal.overflow_mul-result
overflow_mul-result c = omega (arith, sum_few c.args.self.spiraling)

pub overflow_mul-result-in-2 : goal.overflow_mul-result-in-2
overflow_mul-result-in-2 c = omega (arith, sum_few c.args.self.spiraling)

pub overflow_add-result : goal.overflow_add-result
overflow_add-result c = omega (arith, sum_few c.args.self.spiraling)

pub overflow_mul-result-in_default : goal.overflow_mul-result-in_default
overflow_mul-result-in_default c = omega (arith, sum_few c.args.self.spiraling)

pub overflow_add-result-in_default : goal.overflow_add-result-in_default
overflow_add-result-in_default c = omega (arith, sum_few c.args.self.spiraling)
