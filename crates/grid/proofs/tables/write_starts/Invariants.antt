use mathlib.Core.Path.{◌≡◌}
use Rattle.counting.specs.Stored.{filled}
use Rattle.grid.specs.Grid.{start}
use Rattle.grid.proofs.tables.write_starts.Given as goal

abbrev pub invariant-loop-e : goal.invariant-loop-e
invariant-loop-e l = (l.sum ≡ start l.counts l.e) × (l.starts ≡ filled (start l.counts) l.e l.initial.starts)
