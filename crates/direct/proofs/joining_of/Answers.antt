use native.Mathlib.Omega.{arith}
use Rattle.direct.proofs.Numbers.{joined_first, joined_then, joined_last}
use Rattle.direct.proofs.joining_of.Goals as goal

pub returns-in-0 : goal.returns-in-0
returns-in-0 c = joined_first c.requires.0 c.requires.1 c.requires.2 c.min-x.ensures c.max-y.ensures c.in-0.is

pub returns-in-1 : goal.returns-in-1
returns-in-1 c = joined_then c.requires.0 c.requires.1 c.requires.2 c.min-x.ensures c.max-y.ensures (omega (arith, c.in-1.is)) c.in-1.is

pub returns-in_default : goal.returns-in_default
returns-in_default c = joined_last c.requires.0 c.requires.1 c.requires.2 c.min-x.ensures c.max-y.ensures (omega arith) (omega arith)
