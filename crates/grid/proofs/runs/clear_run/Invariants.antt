use mathlib.Core.Path.{◌≡◌}
use lib.ListN.{length}
use Rattle.grid.proofs.Laying.{Clearing}
use Rattle.grid.proofs.runs.clear_run.Given as goal

abbrev pub invariant-loop-e : goal.invariant-loop-e
invariant-loop-e l = Clearing l.edges l.f l.e l.tab × (length l.tab ≡ length l.initial.tab)
