use Rattle.counting.specs.work.Stored.{Summed}
use Rattle.cases.specs.work.Tally.{triangles_for, most_for}
use Rattle.cases.proofs.numbers.triangles_in.Given as goal

abbrev pub invariant-loop-n : goal.invariant-loop-n
invariant-loop-n l = Summed (triangles_for l.cells) most_for l.n l.t
