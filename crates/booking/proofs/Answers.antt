-- The booking from the count of fans.
use Prim.Native.Nat.{ℕ, ◌+◌, ◌≤◌, ◌<◌}
use mathlib.Core.Path.{◌≡◌, refl, sym, ap, ◌∙◌}
use mathlib.Core.Bool.{Bool, true, false}
use mathlib.Core.List.{[], ◌∷◌}
use Rattle.std.specs.Prelude.{Some, None}
use native.Mathlib.Omega.{arith}
use Rattle.counting.specs.Pick.{pick}
use Rattle.answer.specs.Answer.{result_of}
use Rattle.slots.specs.Slots.{edge_between}
use Rattle.cell.specs.Nodes.{joining}
use Rattle.cell.specs.Level.{is_level_cell}
use Rattle.booking.specs.declared.Gain.{Gain}
use Rattle.booking.specs.declared.Fans.{Fans}
use Rattle.booking.specs.Figures.{are_split}
use Rattle.booking.specs.Booking.{smallest, median, left_between, beside_drawn, larger, smaller, booked_split}
use Rattle.booking.specs.claims.Booking.{splits_by, more_by, splits_in, more_in}
use Rattle.booking.specs.work.Fans.{fans_numbers, fans_answer}
use Rattle.booking.specs.Answer.{booking_answer}
use Rattle.booking.specs.work.Sums.{GainBy, GainIn}
use Rattle.booking.proofs.Drawn.{split_least}
use Rattle.booking.proofs.Levels.{counted, uncounted}

-- three numbers of which the least is 2 or more, and the one between 4 or more
all_least : (x y z : ℕ) → 2 ≤ smallest x y z → (2 ≤ x) × (2 ≤ y) × (2 ≤ z)
all_least x y z h = (omega arith, omega arith, omega arith)

most_least : (x y z : ℕ) → 2 ≤ x → 2 ≤ y → 2 ≤ z → 4 ≤ median x y z → 10 ≤ x + y + z
unfolding median
most_least x y z p q r h = omega arith

-- a cell with few crossings at its lowest node is not split
module _ (w : ℕ → ℕ) (few : w 0 + w 1 + w 2 < 10) where
  left_few : (p k : ℕ) → joining 0 p ≡ k → left_between w 0 p ≤ w k
  unfolding left_between
  left_few p k e = omega (arith, ap w e)

  low_less : 2 ≤ smaller w → 4 ≤ larger w → ⊥
  unfolding larger smaller joining edge_between
  low_less a b =
      let x = left_between w 0 1 in
      let y = left_between w 0 2 in
      let z = left_between w 0 3 in
      let (p, q, r) = all_least x y z a in
      omega (arith, few, most_least x y z p q r b, left_few 1 0 refl, left_few 2 1 refl, left_few 3 2 refl)

  low_not : are_split (larger w) (smaller w) ≡ false
  low_not = go (are_split (larger w) (smaller w)) refl
    where
      go : (b : Bool) → are_split (larger w) (smaller w) ≡ b → are_split (larger w) (smaller w) ≡ false
      go false e = e
      go true e = let (a, b) = split_least (larger w) (smaller w) e in absurd (low_less a b)

  pub gain_low : {r : Gain} → (r.splits ≡ 0) × (r.more ≡ 0) → GainIn w r
  unfolding splits_in more_in splits_by more_by
  gain_low {r} (p, q) = record { splits_are = p ∙ rw low_not (sym (none (is_level_cell w))); more_is = q ∙ rw low_not (sym (none (is_level_cell w))) }
    where
      none : (b : Bool) → ◌≡◌ {A = ℕ} (pick b 0 0) 0
      none true = refl
      none false = refl

module _ (w : ℕ → ℕ) where
  pub walk_from : fans_numbers None ≡ fans_answer w → result_of [] ≡ booking_answer w
  unfolding booking_answer
  walk_from told = rw (uncounted w told) refl

  -- what splitting adds
  pub gain_walk : fans_numbers None ≡ fans_answer w → {r : Gain} → (r.splits ≡ 0) × (r.more ≡ 0) → GainIn w r
  unfolding splits_in more_in
  gain_walk told (p, q) = let K = uncounted w told in record { splits_are = p ∙ rw K refl; more_is = q ∙ rw K refl }

  module _ {f : Fans} (told : fans_numbers (Some f) ≡ fans_answer w) where
    pub booked_from : {d : ℕ} → d ≡ beside_drawn f.d1 f.d2 → result_of (f.corners ∷ f.d1 ∷ f.d2 ∷ (f.corners + d) ∷ []) ≡ booking_answer w
    unfolding booking_answer booked_split
    booked_from q = let F = counted w told in rw (q, F.level, F.corners, F.d1, F.d2) refl

    pub gain_counted : {r : Gain} → GainBy f.d1 f.d2 r → GainIn w r
    unfolding splits_in more_in
    gain_counted G = let F = counted w told in record { splits_are = G.splits_are ∙ rw (F.level, F.d1, F.d2) refl; more_is = G.more_is ∙ rw (F.level, F.d1, F.d2) refl }
