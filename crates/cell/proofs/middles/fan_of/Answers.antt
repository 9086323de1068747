use native.Mathlib.Omega.{arith}
use mathlib.Core.Logic.{⊎_elim}
use Rattle.cell.proofs.Fans.{fan_none, fan_three, fan_normal, fan_else}
use Rattle.cell.proofs.middles.fan_of.Goals as goal

pub returns-in-0 : goal.returns-in-0
returns-in-0 c = ⊎_elim (fan_none _ _) (fan_three _ _) c.in-0.is

pub returns-in-4 : goal.returns-in-4
returns-in-4 c = fan_normal _ _ c.in-4.is c.if-normal.true

pub returns-in_default : goal.returns-in_default
returns-in_default c = fan_else _ _ (omega arith) (omega arith) (λ e. c.if-normal.false)

pub returns-in_default-2 : goal.returns-in_default-2
returns-in_default-2 c = fan_else _ _ (grind (arith, c.in_default)) (grind (arith, c.in_default)) (λ e. absurd (grind (arith, c.in_default)))
