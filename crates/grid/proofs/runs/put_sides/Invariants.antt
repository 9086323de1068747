use Rattle.grid.specs.work.Runs.{InCell, Lays}
use Rattle.grid.proofs.runs.put_sides.Given as goal

abbrev pub invariant-loop-k : goal.invariant-loop-k
invariant-loop-k l = Lays (InCell l.c l.from l.k) l.cells l.tab l.initial.sides l.sides
