use native.Mathlib.Omega.{arith}
use Rattle.cell.proofs.Route.{rises_one, rises_more, rises_all}
use Rattle.cell.proofs.routes.firsts_of.Goals as goal

pub loop-k-init : goal.loop-k-init
loop-k-init c = (omega arith, rises_one _ c.count_at-n.ensures)

pub returns-then-start_of : goal.returns-then-start_of
returns-then-start_of c = c.laid_of.ensures

pub bounds-f-k : goal.bounds-f-k
bounds-f-k c = omega (arith, c.loop-k.invariant.1.long)

pub overflow_add-n : goal.overflow_add-n
overflow_add-n c = omega (arith, c.loop-k.invariant.1.sum.few, c.count_at-n-in-loop-k.ensures.1)

pub loop-k-preserved : goal.loop-k-preserved
loop-k-preserved c = (omega arith, rises_more c.loop-k.invariant.1 (omega arith) (omega arith) (omega (arith, c.if-start_of.false, c.start_of-in-loop-k.ensures, c.start_of.ensures)) _ c.count_at-n-in-loop-k.ensures)

pub returns : goal.returns
returns c = rises_all c.loop-k.invariant.1 (omega arith)
