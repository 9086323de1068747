use native.Mathlib.Omega.{arith}
use mathlib.Core.Path.{◌∙◌}
use Rattle.split.proofs.Coded.{told_lt, arm_told, arm_fits}
use Rattle.split.proofs.Spiral.arm_count.Goals as goal

pub spoke_count-requires : goal.spoke_count-requires
spoke_count-requires c = told_lt c.args.self.spiraling _ c.requires.p_bound

pub overflow_cast-result : goal.overflow_cast-result
overflow_cast-result c = omega (arith, c.spoke_count.ensures ∙ arm_told c.args.self.spiraling _ c.requires.p_bound, arm_fits c.args.self.spiraling _ c.requires.p_bound)

pub returns : goal.returns
returns c = c.spoke_count.ensures ∙ arm_told c.args.self.spiraling _ c.requires.p_bound
