use Prim.Native.Nat.{◌/◌}
use mathlib.Core.Path.{◌≡◌}
use lib.ListN.{length}
use Rattle.trees.specs.work.Keys.{pair_lacks}
use Rattle.trees.specs.work.Planted.{PairsMarked, lowest_from}
use Rattle.trees.proofs.pairs.mark.Given as goal

abbrev pub invariant-loop-e : goal.invariant-loop-e
invariant-loop-e l =
    (length l.tops ≡ length l.initial.tops)
    × PairsMarked l.pairs (length l.pairs / 2) l.forest.keys.now.now l.forest.count l.e l.initial.places l.tops l.places
    × (l.lowest ≡ lowest_from (pair_lacks l.pairs l.forest.keys.now.now l.forest.count) (length l.pairs / 2) l.e)
