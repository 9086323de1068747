use mathlib.Core.Path.{◌≡◌}
use Rattle.counting.specs.Stored.{filled}
use Rattle.grid.specs.Grid.{start}
use Rattle.flat.proofs.steps.put_starts.Given as goal

abbrev pub invariant-loop-e : goal.invariant-loop-e
invariant-loop-e l = record { sum : l.s ≡ start l.counts l.e; stored : l.starts ≡ filled (start l.counts) l.e l.initial.starts }
