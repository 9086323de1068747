use Prim.Native.Nat.{ℕ, ◌+◌, ◌*◌}
use mathlib.Core.Path.{◌≡◌, ap, ◌∙◌}
use native.Mathlib.Omega.{arith}
use lib.ListN.{length, take, length-take}
use Rattle.counting.specs.Stored.{filled}
use Rattle.counting.proofs.Stored.{filled_ext}
use Rattle.counting.proofs.Tables.{zeros}
use Rattle.trees.specs.work.Trees.{trees}
use Rattle.trees.specs.work.Keys.{most_places, place_room, earlier_in}
use Rattle.trees.specs.work.Planted.{key_branches}
use Rattle.trees.proofs.Planted.{earlier_take}
use Rattle.trees.proofs.earlier_of.Goals as goal
use Rattle.trees.proofs.earlier_of.Goals.{After-min-n}

-- as many keys as are looked at
long : (c : After-min-n) → length (take c.min-n.result c.args.keys.now) ≡ c.min-n.result
long c = omega (arith, length-take c.min-n.result c.args.keys.now)

pub put_earlier-requires : goal.put_earlier-requires
put_earlier-requires c = let l = long (goal.at.put_earlier-requires c).After-min-n in
    record { some = omega arith; few = omega (arith, l); room = omega (arith, l); blank = zeros (trees + key_branches * most_places); tops_room = omega (arith, l) }

pub returns : goal.returns
unfolding place_room
returns c =
    let a = c.args in
    let e : c.min-n.result ≡ place_room (length a.keys.now) (length a.prev.now) = omega arith in
    (rw (long (goal.at.returns c).After-min-n) at c.put_earlier.ensures)
    ∙ filled_ext _ _ c.min-n.result a.prev.now (earlier_take a.keys.now c.min-n.result)
    ∙ ap (λ (n : ℕ). filled (earlier_in a.keys.now) n a.prev.now) e
