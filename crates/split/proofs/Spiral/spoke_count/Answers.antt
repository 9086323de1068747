use native.Mathlib.Omega.{arith}
use mathlib.Core.Path.{◌∙◌}
use Rattle.split.proofs.Coded.{sum_few}
use Rattle.split.proofs.Ends.{spoke_at, spokes_are}
use Rattle.split.proofs.Spiral.spoke_count.Goals as goal

pub returns-in-0 : goal.returns-in-0
returns-in-0 c = (spokes_are _ _).0 ∙ spoke_at _ _ _ 0 c.in-0.is

pub returns-in-1 : goal.returns-in-1
returns-in-1 c = (spokes_are _ _).1 ∙ spoke_at _ _ _ 1 c.in-1.is

pub returns-in-2 : goal.returns-in-2
returns-in-2 c = (spokes_are _ _).2 ∙ spoke_at _ _ _ 2 c.in-2.is

pub returns-in_default : goal.returns-in_default
returns-in_default c = c.saturating_sub.ensures ∙ (spokes_are _ _).3 ∙ spoke_at _ _ _ 3 (omega arith)

pub overflow_mul-result : goal.overflow_mul-result
overflow_mul-result c = omega (arith, sum_few c.args.self.spiraling)
