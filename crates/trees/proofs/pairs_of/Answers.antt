use Prim.Native.Nat.{ℕ, ◌/◌, min}
use mathlib.Core.Path.{◌≡◌, ap, ◌∙◌}
use mathlib.Core.List.{List}
use native.Mathlib.Omega.{arith}
use lib.ListN.{length, take, length-take}
use Rattle.std.specs.Prelude.{Option}
use Rattle.counting.specs.work.Search.{found}
use Rattle.counting.specs.Stored.{filled}
use Rattle.counting.proofs.Search.{found_ext}
use Rattle.counting.proofs.Stored.{filled_ext}
use Rattle.trees.specs.work.Keys.{place_room, pair_lacks, paired_at}
use Rattle.trees.proofs.Planted.{lacks_take, paired_take}
use Rattle.trees.proofs.pairs_of.Goals as goal
use Rattle.trees.proofs.pairs_of.Goals.{After-min-k}

-- what the call promises, of a result and of the places that are left
abbrev Promised : After-min-k → Option ℕ → List ℕ → Type 0
Promised c r new =
    (r ≡ found (pair_lacks c.args.pairs.now c.args.keys.now (place_room (min c.args.n (length c.args.keys.now)) (length c.args.places.now))) (length c.args.pairs.now / 2))
    × (new ≡ filled (paired_at c.args.pairs.now (length c.args.pairs.now / 2) c.args.keys.now c.args.places.now) (place_room (min c.args.n (length c.args.keys.now)) (length c.args.places.now)) c.args.places.now)

module _ (c : After-min-k) where
  abbrev k : ℕ
  k = c.min-k.result

  -- the keys that are looked at
  abbrev keys : List ℕ
  keys = take k c.args.keys.now

  long : length keys ≡ k
  long = omega (arith, length-take k c.args.keys.now)

  promised : (r : Option ℕ) (new : List ℕ)
      → r ≡ found (pair_lacks c.args.pairs.now keys (length keys)) (length c.args.pairs.now / 2)
      → new ≡ filled (paired_at c.args.pairs.now (length c.args.pairs.now / 2) keys c.args.places.now) (length keys) c.args.places.now
      → Promised c r new
  unfolding place_room
  promised r new p q =
      let a = c.args in
      let e : k ≡ place_room (min a.n (length a.keys.now)) (length a.places.now) = omega arith in (
        (rw long at p)
            ∙ found_ext _ _ (length a.pairs.now / 2) (λ i h. lacks_take a.keys.now k a.pairs.now i)
            ∙ ap (λ (k : ℕ). found (pair_lacks a.pairs.now a.keys.now k) (length a.pairs.now / 2)) e,
        (rw long at q)
            ∙ filled_ext _ _ k a.places.now (paired_take a.keys.now k a.pairs.now (length a.pairs.now / 2) a.places.now)
            ∙ ap (λ (k : ℕ). filled (paired_at a.pairs.now (length a.pairs.now / 2) a.keys.now a.places.now) k a.places.now) e,
      )

pub returns-then-k-le-FEW_PLACES : goal.returns-then-k-le-FEW_PLACES
returns-then-k-le-FEW_PLACES c =
    let E = c.pairs_within.ensures in
    let w = promised (goal.at.returns-then-k-le-FEW_PLACES c).After-min-k _ _ E.value E.places_after in
    record { value = w.0; places_after = w.1 }

pub returns-else-k-le-FEW_PLACES : goal.returns-else-k-le-FEW_PLACES
returns-else-k-le-FEW_PLACES c =
    let E = c.pairs_within-else-k-le-FEW_PLACES.ensures in
    let w = promised (goal.at.returns-else-k-le-FEW_PLACES c).After-min-k _ _ E.value E.places_after in
    record { value = w.0; places_after = w.1 }
