-- The inner crossings of a split as code writes them, edge by edge; and split by split.
use Prim.Native.Nat.{ℕ, ◌+◌, ◌*◌, ◌≤◌, ◌<◌}
use mathlib.Core.Path.{◌≡◌, refl, sym, ap, ◌∙◌}
use mathlib.Core.List.{List, [], ◌∷◌, ◌++◌}
use native.Mathlib.Omega.{arith}
use lib.ListN.{length, length-append}
use lib.Ieee.{Float}
use Rattle.counting.specs.Lists.{gather, over, values}
use Rattle.counting.specs.work.Stored.{Stored}
use Rattle.counting.specs.Stored.{stored_in}
use Rattle.counting.proofs.Lists.{gather_over, length_singles}
use Rattle.counting.proofs.Fronts.{over_more}
use Rattle.counting.proofs.Stored.{stored_none, stored_as, stored_long, stored_more, stored_fits}
use Rattle.place.specs.declared.Place.{Place}
use Rattle.place.specs.Place.{part_of, between, coordinates, numbers, all_numbers}
use Rattle.place.proofs.Numbers.{length_numbers, points-then, point_stored}
use Rattle.cell.specs.declared.Cell.{Cell}
use Rattle.cell.specs.Of.{count_of}
use Rattle.booking.specs.Booking.{larger, smaller}
use Rattle.split.specs.Limits.{word_step}
use Rattle.split.specs.Labels.{labelled, spoke}
use Rattle.split.specs.SubCell.{sub}
use Rattle.split.specs.Standing.{corner_in, new_place, sub_places, arm_place, arm_places, split_places}
use Rattle.split.specs.work.Working.{spoke_by, SpiralNumbers, SplitsLeft}
use Rattle.split.specs.work.Spots.{standing_inner}
use Rattle.split.proofs.Stands.{inner_stop, inner_more}
use Rattle.split.proofs.Nested.{left_none, left_some}

-- four places, each known by another name
pub four_places : {a b d e p q r s : Place} → a ≡ p → b ≡ q → d ≡ r → e ≡ s → (a ∷ b ∷ d ∷ e ∷ []) ≡ (p ∷ q ∷ r ∷ s ∷ [])
four_places x y z t = cc

-- and their numbers
pub numbers_four : (at : List Place) → length at ≡ 4
    → (corner_in at 0).x ∷ (corner_in at 0).y ∷ (corner_in at 0).z ∷ (corner_in at 1).x ∷ (corner_in at 1).y ∷ (corner_in at 1).z
    ∷ (corner_in at 2).x ∷ (corner_in at 2).y ∷ (corner_in at 2).z ∷ (corner_in at 3).x ∷ (corner_in at 3).y ∷ (corner_in at 3).z ∷ []
    ≡ all_numbers at
unfolding gather
numbers_four [] e = absurd (omega arith)
numbers_four (a ∷ []) e = absurd (omega arith)
numbers_four (a ∷ b ∷ []) e = absurd (omega arith)
numbers_four (a ∷ b ∷ c ∷ []) e = absurd (omega arith)
numbers_four (a ∷ b ∷ c ∷ d ∷ []) e = refl
numbers_four (a ∷ b ∷ c ∷ d ∷ f ∷ l) e = absurd (omega arith)

-- points one after the other
module _ (g : ℕ → Place) (i : ℕ) where
  pub points_none : (l : List Float) → Stored l (coordinates * i) (all_numbers (values g 0)) l (coordinates * (i + 0))
  unfolding over gather
  points_none l = stored_as (stored_none l (coordinates * i)) refl (omega arith)

  pub points_more : {was mid : List Float} (h : ℕ) → Stored was (coordinates * i) (all_numbers (values g h)) mid (coordinates * (i + h))
      → coordinates * (i + h) + coordinates ≤ length mid → {p : Place} {out : List Float} → p ≡ g h → out ≡ stored_in mid (coordinates * (i + h)) (numbers p)
      → Stored was (coordinates * i) (all_numbers (values g (h + 1))) out (coordinates * (i + (h + 1)))
  points_more h S room {p} e q =
      let f : ℕ → List Place = λ x. g x ∷ [] in
      stored_as (points-then (over f h 0) (p ∷ []) S (point_stored (i + h) p room q))
      (ap all_numbers (ap (λ (x : Place). over f h 0 ++ (x ∷ [])) e ∙ sym (over_more f h))) (omega arith)

-- the four new edges one after the other
module _ (w : ℕ → ℕ) (at : List Place) where
  abbrev arm : ℕ → List Float
  arm n = all_numbers (arm_places w at n)

  all_arms : all_numbers (split_places w at) ≡ over arm 4 0
  unfolding split_places
  all_arms = gather_over numbers (arm_places w at) 4 0

  abbrev pub Arms : (was : List Float) (i m : ℕ) (is : List Float) (k : ℕ) → Type 0
  Arms was i m is k = Stored was (coordinates * i) (over arm m 0) is (coordinates * k)

  pub arms_none : (l : List Float) (i : ℕ) → Arms l i 0 l i
  unfolding over
  arms_none l i = stored_none l (coordinates * i)

  module _ {was mid : List Float} (i k m : ℕ) (S : Arms was i m mid k) where
    pub arms_room : m < 4 → coordinates * (i + length (split_places w at)) ≤ length was → {n : ℕ} → n ≡ spoke w m → coordinates * (k + n) ≤ length mid
    unfolding arm_places
    arms_room h r e =
        omega (
          arith,
          stored_fits arm 4 m S h (omega (arith, r, length_numbers (split_places w at), ap length all_arms)),
          length_numbers (arm_places w at m),
          length_singles (arm_place w at m) (spoke w m) 0,
          e,
        )

    pub arms_more : {a v : Place} {n : ℕ} {out : List Float} {j : ℕ} → a ≡ new_place w at → v ≡ corner_in at (labelled w m) → n ≡ spoke w m
        → Stored mid (coordinates * k) (all_numbers (values (λ h. between a v (part_of h n)) n)) out j → Stored was (coordinates * i) (over arm (m + 1) 0) out j
    unfolding arm_places arm_place
    arms_more {a} {v} {n} ea ev en T = stored_more arm m S (stored_as T (rw (ea, ev, en) refl) refl)

  pub arms_all : {was is : List Float} (i : ℕ) {j m : ℕ} → Stored was (coordinates * i) (over arm m 0) is j → m ≡ 4 → Stored was (coordinates * i) (all_numbers (split_places w at)) is j
  arms_all i S e = stored_as S (ap (λ n. over arm n 0) e ∙ sym all_arms) refl

-- the counts of the new edges from the numbers of a cell
pub spokes_told : {c : Cell} {x y : ℕ} {own labels : List ℕ} → SpiralNumbers c x y own labels → (m : ℕ) → spoke_by x y m ≡ spoke (count_of c) m
unfolding spoke_by spoke
spokes_told N m = rw (N.larger_is, N.smaller_is) refl

-- no split is left
module _ {c : Cell} {cell n b f left : ℕ} (L : SplitsLeft c cell n b f left) (at : List Place) where
  pub none_inner : left ≡ 0 → (area : List Float) (i : ℕ) → Stored area (coordinates * i) (all_numbers (standing_inner cell n b f at c)) area (coordinates * i)
  unfolding gather
  none_inner z area i = stored_as (stored_none area (coordinates * i)) (ap all_numbers (sym (inner_stop cell n b f at c (left_none L z)))) refl

  -- or one is; v is the nested sub-cell, at' where its nodes are, and b' the next number of inner crossings
  module _ (h : 0 < left) {v : Cell} {word b' : ℕ} {at' : List Place} (e : v ≡ sub c b f word 2) (g : word ≡ cell + word_step * (n + 2))
      (k : b' ≡ b + 2 * (larger (count_of c) + smaller (count_of c))) (p : at' ≡ sub_places (count_of c) at 2) where
    abbrev rest : List Place
    rest = standing_inner cell (n + 2) b' (f + 6) at' v

    all_inner : standing_inner cell n b f at c ≡ split_places (count_of c) at ++ rest
    all_inner = rw (p, k, e, g) (inner_more cell n b f at c L.sound.level (left_some L h))

    sizes : length (standing_inner cell n b f at c) ≡ length (split_places (count_of c) at) + length rest
    sizes = ap length all_inner ∙ length-append (split_places (count_of c) at) rest

    module _ (was : List Float) (i : ℕ) (room : coordinates * (i + length (standing_inner cell n b f at c)) ≤ length was) {mid : List Float} (j : ℕ)
        (S : Stored was (coordinates * i) (all_numbers (split_places (count_of c) at)) mid (coordinates * j)) where
      pub inner_room : coordinates * (j + length rest) ≤ length mid
      inner_room = omega (arith, room, sizes, S.after, stored_long S, length_numbers (split_places (count_of c) at))

      pub inner_all : {is : List Float} {r : ℕ} → Stored mid (coordinates * j) (all_numbers rest) is r → Stored was (coordinates * i) (all_numbers (standing_inner cell n b f at c)) is r
      inner_all T = stored_as (points-then (split_places (count_of c) at) rest S T) (ap all_numbers (sym all_inner)) refl

  pub split_room : 0 < left → (i : ℕ) {size : ℕ} → coordinates * (i + length (standing_inner cell n b f at c)) ≤ size → coordinates * (i + length (split_places (count_of c) at)) ≤ size
  split_room h i r = omega (arith, r, sizes h refl refl refl refl)
