use Rattle.trees.proofs.Trees.{Descending}
use Rattle.trees.proofs.planting.seek.Given as goal

abbrev pub invariant-loop-j : goal.invariant-loop-j
invariant-loop-j g l = let k = g.K.Placed in Descending g.row.B (k.key_at l.keys) (k.places l.keys) l.low l.links l.key l.at l.rest l.j

abbrev pub decreases-loop-j : goal.decreases-loop-j
decreases-loop-j g l = l.j
