-- The face call, branch by branch, from the corner counts at the two ends of an edge. Other crates cite these laws.
use Prim.Native.Nat.{ℕ, ◌+◌, ◌-◌, ◌%◌, ◌<◌, ◌≤◌}
use mathlib.Core.Path.{◌≡◌, refl, sym, ◌∙◌, ap}
use mathlib.Core.Logic.{inl, inr}
use native.Mathlib.Omega.{arith}
use native.Mathlib.Decide.{dec_lt}
use lib.Dec.{ltb}
use borrow.Author.Tests.{lt-ltb, le-ltb, le-leb, lt-leb, eq-eqb, ne_eqb}
use Rattle.counting.specs.Pick.{pick}
use Rattle.face.specs.Face.{along, left, skipped, joined_by, unjoined_by, no_crossing, joined, bare, other, residual, count_on, others, kth, corner_count_at, partner, face_answer, face_join}
use Rattle.face.specs.claims.Claims.{unjoined}
use Rattle.slots.specs.Slots.{lower, upper}
use Rattle.face.specs.claims.Ends.{Edge}
use Rattle.face.specs.work.Ends.{Corners}
use Rattle.face.proofs.Gaps.{corner_fits, corner_room, gap_excess, gap_level}

-- the residual rule
module _ (e r s t : ℕ) where
  pub residual_skip : s < r % 2 → residual e r s t ≡ unjoined_by skipped
  unfolding residual
  residual_skip h = simp (lt-ltb s (r % 2) h)

  pub residual_up : r % 2 ≤ s → (s - r % 2) % 2 ≡ 0 → residual e r s t ≡ joined_by e (t + 1) along
  unfolding residual
  residual_up h k = simp (le-ltb s (r % 2) h, eq-eqb ((s - r % 2) % 2) 0 k)

  pub residual_down : r % 2 ≤ s → ((s - r % 2) % 2 ≡ 0 → ⊥) → residual e r s t ≡ joined_by e (t - 1) along
  unfolding residual
  residual_down h k = simp (le-ltb s (r % 2) h, ne_eqb ((s - r % 2) % 2) 0 k)

-- no such crossing
pub answer_off : (ab ac bc e t : ℕ) → count_on ab ac bc e ≤ t → face_answer ab ac bc e t ≡ no_crossing
unfolding face_answer
answer_off ab ac bc e t h = simp (le-leb (count_on ab ac bc e) t h)

-- the counts of an edge by their definitions
pub corners-of : (ab ac bc : ℕ) {e : ℕ} → Edge e → Corners ab ac bc e (count_on ab ac bc e) (corner_count_at ab ac bc (lower e) e) (corner_count_at ab ac bc (upper e) e)
corners-of ab ac bc d = record { edge = d; own = refl; at_lower = refl; at_upper = refl }

-- the crossing t of an edge of x crossings, with the corner counts p and q at its lower and its upper end
module _ {ab ac bc e x p q : ℕ} (c : Corners ab ac bc e x p q) (t : ℕ) where
  -- below the lower corner count
  pub answer_low : t < p → face_answer ab ac bc e t ≡ partner ab ac bc (lower e) e t
  unfolding face_answer
  answer_low h =
      let f = corner_fits ab ac bc (lower e) e in
      simp (lt-leb (count_on ab ac bc e) t (omega (arith, c.at_lower)), lt-ltb t (corner_count_at ab ac bc (lower e) e) (omega (arith, c.at_lower)))

  -- within the upper corner count
  pub answer_high : t < x → x ≤ t + q → face_answer ab ac bc e t ≡ partner ab ac bc (upper e) e (x - 1 - t)
  unfolding face_answer
  answer_high h k =
      let r = corner_room ab ac bc c.edge in
      simp (
        c.own,
        lt-leb (count_on ab ac bc e) t (omega (arith, c.own)),
        le-ltb t (corner_count_at ab ac bc (lower e) e) (omega (arith, c.own, c.at_upper)),
        lt-ltb (count_on ab ac bc e - 1 - t) (corner_count_at ab ac bc (upper e) e) (omega (arith, c.own, c.at_upper)),
      )

  module _ (low : p ≤ t) (high : t + q < x) where
    past : face_answer ab ac bc e t ≡ pick (ltb (others ab ac bc e) (count_on ab ac bc e)) (residual e (count_on ab ac bc e - others ab ac bc e) (t - corner_count_at ab ac bc (lower e) e) t) (unjoined_by left)
    unfolding face_answer
    past =
        simp (
          lt-leb (count_on ab ac bc e) t (omega (arith, c.own)),
          le-ltb t (corner_count_at ab ac bc (lower e) e) (omega (arith, c.at_lower)),
          le-ltb (count_on ab ac bc e - 1 - t) (corner_count_at ab ac bc (upper e) e) (omega (arith, c.own, c.at_upper)),
        )

    -- between the two: the residual rule on an edge above the other two, else what rule 2 leaves, which is the one crossing there
    pub answer_residual : others ab ac bc e < x → face_answer ab ac bc e t ≡ residual e (x - p - q) (t - p) t
    answer_residual h =
        let k : others ab ac bc e < count_on ab ac bc e = omega (arith, c.own) in
        past ∙ rw (lt-ltb (others ab ac bc e) (count_on ab ac bc e) k, c.own, c.at_lower, c.at_upper)
        (ap (λ r. residual e r (t - corner_count_at ab ac bc (lower e) e) t) (sym (gap_excess ab ac bc c.edge k)))

    pub left_one : x ≤ others ab ac bc e → (x - p - q ≡ 1) × ((ab + ac + bc) % 2 ≡ 1)
    left_one h =
        elim (gap_level ab ac bc c.edge (omega (arith, c.own))) [
          | inl z ↦ absurd (omega (arith, c.own, c.at_lower, c.at_upper))
          | inr z ↦ (omega (arith, c.own, c.at_lower, c.at_upper), z.0)
        ]

    long : 1 < x - p - q → others ab ac bc e < x
    long g =
        elim (dec_lt (others ab ac bc e) x) [
          | yes h ↦ h
          | no h ↦ absurd (omega (arith, left_one (omega arith)))
        ]

    -- its three cases, by the number of crossings from t to the upper corner: up if it is even, else down, but the first is skipped
    pub answer_up : (x - q - t) % 2 ≡ 0 → face_answer ab ac bc e t ≡ joined_by e (t + 1) along
    answer_up h = answer_residual (long (omega arith)) ∙ residual_up e (x - p - q) (t - p) t (omega arith) (omega arith)

    pub answer_down : (x - q - t) % 2 ≡ 1 → p < t → face_answer ab ac bc e t ≡ joined_by e (t - 1) along
    answer_down h k = answer_residual (long (omega arith)) ∙ residual_down e (x - p - q) (t - p) t (omega arith) (λ z. omega arith)

    pub answer_skip : others ab ac bc e < x → (x - q - t) % 2 ≡ 1 → t ≡ p → face_answer ab ac bc e t ≡ unjoined_by skipped
    answer_skip l h k = answer_residual l ∙ residual_skip e (x - p - q) (t - p) t (omega arith)

    pub answer_left : x ≤ others ab ac bc e → face_answer ab ac bc e t ≡ unjoined_by left
    answer_left h = past ∙ rw (le-ltb (others ab ac bc e) (count_on ab ac bc e) (omega (arith, c.own)))

-- what a crossing is joined to
pub face_off : (ab ac bc e t : ℕ) → count_on ab ac bc e ≤ t → face_join ab ac bc e t ≡ no_crossing
unfolding face_join
face_off ab ac bc e t h = ap bare (answer_off ab ac bc e t h)

module _ {ab ac bc e x p q : ℕ} (c : Corners ab ac bc e x p q) (t : ℕ) where
  pub face_low : t < p → face_join ab ac bc e t ≡ joined (other (lower e) e) (kth ab ac bc (lower e) (other (lower e) e) t)
  unfolding face_join partner
  face_low h = ap bare (answer_low c t h)

  pub face_high : t < x → x ≤ t + q → face_join ab ac bc e t ≡ joined (other (upper e) e) (kth ab ac bc (upper e) (other (upper e) e) (x - 1 - t))
  unfolding face_join partner
  face_high h k = ap bare (answer_high c t h k)

  module _ (low : p ≤ t) (high : t + q < x) where
    pub face_up : (x - q - t) % 2 ≡ 0 → face_join ab ac bc e t ≡ joined e (t + 1)
    unfolding face_join
    face_up h = ap bare (answer_up c t low high h)

    pub face_down : (x - q - t) % 2 ≡ 1 → p < t → face_join ab ac bc e t ≡ joined e (t - 1)
    unfolding face_join
    face_down h k = ap bare (answer_down c t low high h k)

    -- skipped or left
    pub face_skip : (x - q - t) % 2 ≡ 1 → t ≡ p → face_join ab ac bc e t ≡ unjoined
    unfolding face_join
    face_skip h k =
        elim (dec_lt (others ab ac bc e) x) [
          | yes l ↦ ap bare (answer_skip c t low high l h k)
          | no l ↦ ap bare (answer_left c t low high (omega arith))
        ]
