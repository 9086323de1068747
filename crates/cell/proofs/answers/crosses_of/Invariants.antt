use Rattle.counting.specs.work.Stored.{Summed}
use Rattle.cell.proofs.Loops.{cross_at}
use Rattle.cell.proofs.answers.crosses_of.Given as goal

abbrev pub invariant-loop-k : goal.invariant-loop-k
invariant-loop-k l = Summed (cross_at l.halves l.e) 1 l.k l.x
