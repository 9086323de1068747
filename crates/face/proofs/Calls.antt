-- The branches of the face call in the form in which its code meets them.
use Prim.Native.Nat.{ℕ, ◌+◌, ◌-◌, ◌%◌, ◌<◌, ◌≤◌}
use mathlib.Core.Path.{◌≡◌, ◌∙◌}
use mathlib.Core.Logic.{◌≢◌}
use native.Mathlib.Omega.{arith}
use native.Mathlib.Decide.{dec_lt}
use borrow.Author.Tests.{lt-ltb, le-ltb, eq-eqb, ne_eqb}
use Rattle.face.specs.declared.Stand.TheVariants.{Low, High}
use Rattle.face.specs.Face.{left, skipped, along, joined_by, unjoined_by, other, count_on, others, kth, partner, face_answer}
use Rattle.slots.specs.Slots.{lower, upper}
use Rattle.face.specs.work.Stand.{why_on}
use Rattle.face.specs.work.Ends.{AtCorner, OnEdge}
use Rattle.face.proofs.Ends.{all_three, low_end, high_end}
use Rattle.face.proofs.Gaps.{corner_fits}
use Rattle.face.proofs.Stands.{Stands, Within}
use Rattle.face.proofs.Branches.{answer_low, answer_high, answer_up, answer_down, answer_skip, answer_left}

-- the rank of a partner is below the count of its edge
pub partner_fits : {ab ac bc w e k : ℕ} → AtCorner ab ac bc w e k → k < count_on ab ac bc (other w e)
partner_fits {ab} {ac} {bc} {w} {e} a = omega (arith, a.below, corner_fits ab ac bc w e)

-- the k-th from the lower end, and from the upper
module _ (ab ac bc v e k : ℕ) where
  pub kth_at : v ≡ lower e → kth ab ac bc v e k ≡ k
  unfolding kth
  kth_at h = simp (eq-eqb v (lower e) h)

  pub kth_off : v ≢ lower e → kth ab ac bc v e k ≡ count_on ab ac bc e - 1 - k
  unfolding kth
  kth_off h = simp (ne_eqb v (lower e) h)

module _ (ab ac bc x : ℕ) where
  pub why_skipped : ab + ac + bc - x < x → why_on ab ac bc x ≡ skipped
  unfolding why_on
  why_skipped h = simp (lt-ltb (ab + ac + bc - x) x h)

  pub why_left : x ≤ ab + ac + bc - x → why_on ab ac bc x ≡ left
  unfolding why_on
  why_left h = simp (le-ltb (ab + ac + bc - x) x h)

module _ {ab ac bc e x p q t : ℕ} (o : OnEdge ab ac bc e x p q t) where
  sum : x + others ab ac bc e ≡ ab + ac + bc
  sum = omega (arith, o.corners.own, all_three ab ac bc o.corners.edge)

  pub upper_fits : q ≤ x
  upper_fits = omega (arith, o.corners.own, o.corners.at_upper, corner_fits ab ac bc (upper e) e)

  module _ {w : ℕ} where
    pub low_at : w ≡ lower e → Stands p (x - q) t Low → AtCorner ab ac bc w e t
    low_at u s = record { ends = low_end u o.corners.edge; below = rw u (omega (arith, o.corners.at_lower)) }

    pub low_join : w ≡ lower e → Stands p (x - q) t Low → face_answer ab ac bc e t ≡ partner ab ac bc w e t
    low_join u s = rw u (answer_low o.corners t s)

    pub high_at : w ≡ upper e → Stands p (x - q) t High → AtCorner ab ac bc w e (x - 1 - t)
    high_at u s = record { ends = high_end u o.corners.edge; below = rw u (omega (arith, s.1, o.there, o.corners.at_upper)) }

    pub high_join : w ≡ upper e → Stands p (x - q) t High → face_answer ab ac bc e t ≡ partner ab ac bc w e (x - 1 - t)
    high_join u s = rw u (answer_high o.corners t o.there (omega (arith, s.1)))

  module _ (W : Within p (x - q) t) where
    high : t + q < x
    high = omega (arith, W.high)

    pub up_join : (x - q - t) % 2 ≡ 0 → face_answer ab ac bc e t ≡ joined_by e (t + 1) along
    up_join z = answer_up o.corners t W.low high z

    module _ (z : (x - q - t) % 2 ≡ 1) where
      pub down_join : p < t → face_answer ab ac bc e t ≡ joined_by e (t - 1) along
      down_join h = answer_down o.corners t W.low high z h

      pub alone_join : {y : ℕ} → t ≡ p → y ≡ why_on ab ac bc x → face_answer ab ac bc e t ≡ unjoined_by y
      alone_join h f =
          let m = sum in
          elim (dec_lt (others ab ac bc e) x) [
            | yes k ↦ rw (f ∙ why_skipped ab ac bc x (omega arith)) (answer_skip o.corners t W.low high k z h)
            | no k ↦ rw (f ∙ why_left ab ac bc x (omega arith)) (answer_left o.corners t W.low high (omega arith))
          ]

  pub own_within : x ≤ ab + ac + bc
  own_within = omega (arith, sum)
