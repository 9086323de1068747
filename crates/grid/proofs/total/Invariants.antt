use Prim.Native.Nat.{◌≤◌}
use mathlib.Core.Path.{◌≡◌}
use Rattle.grid.specs.Grid.{start}
use Rattle.slots.specs.Limits.{most_crossings}
use Rattle.grid.proofs.total.Given as goal

abbrev pub invariant-loop-e : goal.invariant-loop-e
invariant-loop-e l = (l.sum ≤ most_crossings) × (l.sum ≡ start l.counts l.e)
