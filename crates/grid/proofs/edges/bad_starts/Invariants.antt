use mathlib.Core.Path.{◌≡◌}
use mathlib.Core.Bool.{false}
use Rattle.counting.specs.Search.{some}
use Rattle.grid.specs.Grid.{start}
use Rattle.grid.specs.Rows.{bad_start}
use Rattle.grid.proofs.edges.bad_starts.Given as goal

-- the sum is the start of the next edge, and no start so far is bad
abbrev pub invariant-loop-e : goal.invariant-loop-e
invariant-loop-e l = (l.sum ≡ start l.counts l.e) × (some (bad_start l.counts l.starts) l.e ≡ false)
