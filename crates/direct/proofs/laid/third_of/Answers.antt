use native.Mathlib.Omega.{arith}
use Rattle.direct.proofs.Laying.{third_first, third_low, third_high}
use Rattle.direct.proofs.laid.third_of.Goals as goal

pub returns-in-0 : goal.returns-in-0
returns-in-0 c = third_first _ c.in-0.is

pub returns-in-1-to-2 : goal.returns-in-1-to-2
returns-in-1-to-2 c = third_low _ (omega arith) (omega arith)

pub returns-in_default : goal.returns-in_default
returns-in_default c = third_high _ c.requires (omega arith)
