use Prim.Native.Nat.{◌+◌}
use mathlib.Core.Path.{ap, ◌∙◌}
use Rattle.split.proofs.Coded.{told_lt, start_told}
use Rattle.split.proofs.Spiral.arm_start.Goals as goal

pub spokes_before-requires : goal.spokes_before-requires
spokes_before-requires c = told_lt c.args.self.spiraling _ c.requires.p_bound.0

pub returns : goal.returns
returns c = ap (λ n. c.args.b + n) c.spokes_before.ensures.0 ∙ start_told c.args.self.spiraling _ _ c.requires.p_bound.0
