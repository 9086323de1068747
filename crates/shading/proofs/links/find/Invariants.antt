use Prim.Native.Nat.{◌/◌}
use mathlib.Core.Path.{◌≡◌}
use lib.ListN.{get_or}
use Rattle.shading.proofs.Forests.{Finding}
use Rattle.shading.proofs.links.find.Given as goal

abbrev pub invariant-loop-p : goal.invariant-loop-p
invariant-loop-p l = Finding l.initial.links l.x l.links l.y l.side × (l.p ≡ get_or l.links l.y 0 / 2)

abbrev pub decreases-loop-p : goal.decreases-loop-p
decreases-loop-p l = l.y
