use Rattle.direct.specs.work.Cells.{PassedOver}
use Rattle.direct.proofs.placing.pass_over.Given as goal

abbrev pub invariant-loop-k : goal.invariant-loop-k
invariant-loop-k l = PassedOver l.tables.counts.now l.tables.sides.now l.c l.end l.k
