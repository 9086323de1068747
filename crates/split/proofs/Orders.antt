-- The four positions in an order: each stands at one place, and sums over them are the same in every order.
use Prim.Native.Nat.{ℕ, ◌+◌, ◌≤◌, ◌<◌}
use mathlib.Core.Path.{◌≡◌}
use mathlib.Core.Logic.{◌≢◌, ⊎_elim}
use mathlib.Core.List.{[], ◌∷◌}
use native.Mathlib.Omega.{arith}
use lib.ListN.{get_or}
use Rattle.counting.specs.Lists.{total}
use Rattle.counting.proofs.Onto.{onto, total_onto}
use Rattle.counting.proofs.Below.{below_four}
use Rattle.cell.specs.claims.Nodes.{Arranged}
use Rattle.booking.specs.Booking.{least_corner, corner_triangles}
use Rattle.booking.specs.claims.Left.{pair_sum, Longest}
use Rattle.booking.proofs.Counts.{pairs, top_cases}

module _ {a b c d : ℕ} (A : Arranged a b c d) where
  abbrev at : ℕ → ℕ
  at n = get_or (a ∷ b ∷ c ∷ d ∷ []) n 0

  pub at_lt : (n : ℕ) → n < 4 → at n < 4
  at_lt = below_four (λ n. at n < 4) A.a_lt A.b_lt A.c_lt A.d_lt

  pub at_apart : (n m : ℕ) → n < m → m < 4 → at n ≢ at m
  at_apart n m h l = below_four (λ m. n < m → at n ≢ at m) (λ h. absurd (omega arith)) (below_one n) (below_two n) (below_last n) m l h
    where
      below_one : (n : ℕ) → n < 1 → at n ≢ b
      below_one = λ n h. below_four (λ n. n < 1 → at n ≢ b) (λ h. A.ab) (λ h. absurd (omega arith)) (λ h. absurd (omega arith)) (λ h. absurd (omega arith)) n (omega arith) h

      below_two : (n : ℕ) → n < 2 → at n ≢ c
      below_two = λ n h. below_four (λ n. n < 2 → at n ≢ c) (λ h. A.ac) (λ h. A.bc) (λ h. absurd (omega arith)) (λ h. absurd (omega arith)) n (omega arith) h

      below_last : (n : ℕ) → n < 3 → at n ≢ d
      below_last = λ n h. below_four (λ n. n < 3 → at n ≢ d) (λ h. A.ad) (λ h. A.bd) (λ h. A.cd) (λ h. absurd (omega arith)) n (omega arith) h

  -- every position stands at a place
  pub place_of : (p : ℕ) → p < 4 → (n : ℕ) × (n < 4) × (at n ≡ p)
  place_of = onto 4 at at_lt at_apart

  pub sum_any : (h : ℕ → ℕ) → h a + h b + h c + h d ≡ total h 4 0
  unfolding total
  sum_any h = let e = total_onto 4 at at_lt at_apart h in omega (arith, e)

  module _ (w : ℕ → ℕ) where
    -- the corner triangles in any order
    pub corners_any : least_corner w a + least_corner w b + least_corner w c + least_corner w d ≡ corner_triangles w
    unfolding corner_triangles
    corners_any = sum_any (least_corner w)

    -- a pair whose sum is not below the others' has the largest
    pub longest : pair_sum w a b c d ≤ pair_sum w a d b c → pair_sum w a c b d ≤ pair_sum w a d b c → Longest w a b c d
    longest h k = record {
      all = A;
      sum = ⊎_elim (λ e. omega (arith, e, pairs w A)) (⊎_elim (λ e. omega (arith, e, pairs w A)) (λ e. e)) (top_cases w A);
    }
