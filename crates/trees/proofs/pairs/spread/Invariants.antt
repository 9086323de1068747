use Prim.Native.Nat.{◌≤◌}
use mathlib.Core.Path.{◌≡◌}
use Rattle.counting.specs.Stored.{filled}
use Rattle.trees.specs.work.Planted.{spread_at}
use Rattle.trees.proofs.pairs.spread.Given as goal

abbrev pub invariant-loop-j : goal.invariant-loop-j
invariant-loop-j l = (l.j ≤ l.n) × (l.places ≡ filled (spread_at l.tops l.initial.places) l.j l.initial.places)
