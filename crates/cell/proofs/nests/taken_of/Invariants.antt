use Rattle.cell.specs.Of.{count_of}
use Rattle.cell.proofs.Values.{Valued}
use Rattle.cell.proofs.nests.taken_of.Given as goal

abbrev pub invariant-loop-k : goal.invariant-loop-k
invariant-loop-k l = Valued (count_of l.c) 6 l.initial.six l.k l.six
