use native.Mathlib.Omega.{arith}
use Rattle.direct.proofs.start_of.Goals as goal

pub returns-then-up : goal.returns-then-up
returns-then-up c = (rw c.if-up.true, omega arith)

pub returns-else-up : goal.returns-else-up
returns-else-up c = (rw c.if-up.false, omega arith)
