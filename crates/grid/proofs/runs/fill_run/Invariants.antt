use Rattle.grid.proofs.Laying.{Filling}
use Rattle.grid.proofs.runs.fill_run.Given as goal

abbrev pub invariant-loop-e : goal.invariant-loop-e
invariant-loop-e l = Filling l.edges l.m l.cap l.a l.initial.tab l.e l.tab
