-- The numbers of a spiral as code finds them: own corner triangles by the sums of counts, and labels by what remains at the lowest node.
use Prim.Native.Nat.{ℕ, ◌+◌, ◌*◌, ◌-◌, ◌/◌, ◌<◌, max}
use mathlib.Core.Path.{◌≡◌, refl, sym, ap, ◌∙◌}
use mathlib.Core.Bool.{true}
use mathlib.Core.List.{[], ◌∷◌}
use native.Mathlib.Omega.{arith}
use lib.ListN.{get_or}
use borrow.Author.Tests.{eq-eqb, ne_eqb}
use Rattle.counting.proofs.Below.{below_four}
use Rattle.slots.specs.Slots.{edge_between}
use Rattle.cell.specs.claims.Nodes.{Arranged}
use Rattle.cell.specs.Nodes.{joining}
use Rattle.cell.specs.Level.{is_level_cell}
use Rattle.cell.proofs.Nodes.{badc, cdab, dcba}
use Rattle.booking.specs.Booking.{least_corner, left_between, larger, smaller}
use Rattle.booking.specs.claims.Left.{largest_pair}
use Rattle.booking.proofs.Counts.{twice_least}
use Rattle.split.specs.Labels.{labelled, label}
use Rattle.split.specs.work.Working.{AreOwn, label_by}
use Rattle.split.proofs.Labels.{at_i_is, from_lowest, at-label}

module _ (w : ℕ → ℕ) (K : is_level_cell w ≡ true) where
  abbrev A : Arranged 0 1 2 3
  A = omega arith

  half : (o m s a : ℕ) → o ≡ (s - m) / 2 → 2 * a + m ≡ s → o ≡ a
  half o m s a e f = omega arith

  pub own_listed : {x y z m o₀ o₁ o₂ o₃ : ℕ} → x ≡ w 0 + w 5 → y ≡ w 1 + w 4 → z ≡ w 2 + w 3 → m ≡ max (max x y) z
      → o₀ ≡ (w 0 + w 1 + w 2 - m) / 2 → o₁ ≡ (w 0 + w 3 + w 4 - m) / 2 → o₂ ≡ (w 1 + w 3 + w 5 - m) / 2 → o₃ ≡ (w 2 + w 4 + w 5 - m) / 2
      → AreOwn w (o₀ ∷ o₁ ∷ o₂ ∷ o₃ ∷ [])
  unfolding joining edge_between largest_pair
  own_listed {x} {y} {z} {m} {o₀} {o₁} {o₂} {o₃} p q r e a b c d =
      let f : m ≡ largest_pair w = e ∙ rw (p, q, r) refl in
      below_four (λ k. get_or (o₀ ∷ o₁ ∷ o₂ ∷ o₃ ∷ []) k 0 ≡ least_corner w k)
      (half o₀ m (w 0 + w 1 + w 2) (least_corner w 0) a (omega (arith, twice_least w K A, f)))
      (half o₁ m (w 0 + w 3 + w 4) (least_corner w 1) b (omega (arith, twice_least w K (badc A), f)))
      (half o₂ m (w 1 + w 3 + w 5) (least_corner w 2) c (omega (arith, twice_least w K (cdab A), f)))
      (half o₃ m (w 2 + w 4 + w 5) (least_corner w 3) d (omega (arith, twice_least w K (dcba A), f)))

  module _ (some : 0 < smaller w) (more : smaller w < larger w) where
    by_one : (r : ℕ) → r ≡ larger w → 1 ≡ label_by (larger w) (smaller w) r
    unfolding label_by
    by_one r e = rw (eq-eqb r (larger w) e)

    by_two : (r : ℕ) → r ≡ smaller w → 2 ≡ label_by (larger w) (smaller w) r
    unfolding label_by
    by_two r e = rw (ne_eqb r (larger w) (λ q. omega arith), eq-eqb r (smaller w) e)

    by_three : (r : ℕ) → r ≡ larger w + smaller w → 3 ≡ label_by (larger w) (smaller w) r
    unfolding label_by
    by_three r e = rw (ne_eqb r (larger w) (λ q. omega arith), ne_eqb r (smaller w) (λ q. omega arith))

    pub label-by : (p : ℕ) → 0 < p → p < 4 → label w p ≡ label_by (larger w) (smaller w) (left_between w 0 p)
    label-by p l h =
        let (n-lt, is) = at-label w K some more p h in
        let F = from_lowest w K some more in
        below_four (λ n. labelled w n ≡ p → n ≡ label_by (larger w) (smaller w) (left_between w 0 p))
        (λ e. absurd (omega (arith, at_i_is w K some more, e)))
        (λ e. by_one (left_between w 0 p) (ap (left_between w 0) (sym e) ∙ F.ij))
        (λ e. by_two (left_between w 0 p) (ap (left_between w 0) (sym e) ∙ F.ik))
        (λ e. by_three (left_between w 0 p) (ap (left_between w 0) (sym e) ∙ F.il))
        (label w p) n-lt is
