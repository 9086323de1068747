use mathlib.Core.Path.{◌≡◌}
use lib.ListN.{length}
use Rattle.trees.specs.work.Trees.{Tree}
use Rattle.trees.specs.work.Planted.{KeyTops}
use Rattle.trees.proofs.planting.grow.Given as goal

abbrev pub invariant-loop-i : goal.invariant-loop-i
invariant-loop-i g l = let k = g.K.Placed in
    (length l.links ≡ length l.initial.links) × Tree g.row.B (k.key_at l.keys) (k.places l.keys) l.i l.links × KeyTops (k.key_at l.keys) (k.places l.keys) l.i l.initial.tops l.tops
