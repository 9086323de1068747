use Rattle.nearest.specs.work.Distance.{NoneNearer}
use Rattle.nearest.proofs.nearer_from.Given as goal

abbrev pub invariant-loop-k : goal.invariant-loop-k
invariant-loop-k l = NoneNearer l.points l.query l.least l.from l.k
