use Prim.Native.Nat.{◌≤◌}
use mathlib.Core.Path.{◌≡◌}
use Rattle.grid.specs.Grid.{start}
use Rattle.slots.specs.Limits.{most_crossings}
use Rattle.grid.proofs.count_crossings.Given as goal

abbrev pub invariant-loop-count : goal.invariant-loop-count
invariant-loop-count l = (l.sum ≤ most_crossings) × (l.sum ≡ start l.counts l.count-index)
