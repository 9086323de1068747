-- How many loops there are of either length: by counting crossings.
use Prim.Native.Nat.{ℕ, ◌+◌, ◌*◌, ◌<◌}
use mathlib.Core.Path.{◌≡◌, refl, sym, ap, ap₂, ◌∙◌}
use mathlib.Core.Logic.{◌≢◌, ⊎_elim}
use mathlib.Core.Bool.{Bool, true, false, not}
use native.Mathlib.Omega.{arith}
use native.Mathlib.Nat.{mul-zero, mul-one, eq_of_mul-eq-mul_left, eq-zero-or-pos}
use lib.Dec.{eqb}
use borrow.Author.Tests.{eqb-true, eqb-false}
use Rattle.counting.specs.Pick.{pick}
use Rattle.counting.specs.Lists.{one, total, pre, it}
use Rattle.counting.specs.Search.{count}
use Rattle.counting.specs.Gcd.{gcd}
use Rattle.counting.proofs.Range.{total_ext, total_zero, total_add, total_same, total_times}
use Rattle.counting.proofs.Search.{count_total, count_ext}
use Rattle.counting.proofs.Rows.{count_ends}
use Rattle.slots.specs.Slots.{lo, hi}
use Rattle.walk.specs.Darts.{half, rev}
use Rattle.walk.proofs.Once.{sum_loops}
use Rattle.cell.specs.Cell.{Edges, crossings, number, step}
use Rattle.cell.specs.Loop.{loop_size}
use Rattle.cell.specs.claims.Nodes.{Arranged}
use Rattle.cell.specs.Level.{is_level_cell}
use Rattle.cell.proofs.Nodes.{abdc, acbd, acdb, adbc, joining_ends}
use Rattle.cell.proofs.Lay.{count_edges}
use Rattle.cell.proofs.Step.{edge-number, index_number}
use Rattle.cell.proofs.Mates.{darts}
use Rattle.booking.specs.Booking.{least_corner, corner_triangles, left_between, larger, smaller}
use Rattle.booking.specs.claims.Booking.{other_length}
use Rattle.booking.specs.claims.Left.{pair_sum, largest_pair, Longest}
use Rattle.booking.proofs.Counts.{top_cases, left_opposite, left_sum, numbers}
use Rattle.booking.proofs.Numbers.{long_times, no_long}
use Rattle.booking.proofs.Closed.{goes}
use Rattle.booking.proofs.Corners.{corner_at, is_in, edge_fits, size_is, same_corner}

-- what is left at the lowest node, and so on all edges
module _ (w : ℕ → ℕ) (K : is_level_cell w ≡ true) where
  abbrev A : Arranged 0 1 2 3
  A = omega arith

  left_three : left_between w 0 1 + left_between w 0 2 + left_between w 0 3 ≡ 2 * (larger w + smaller w)
  left_three =
      ⊎_elim (λ (t : pair_sum w 0 1 2 3 ≡ largest_pair w). by (record { all = acdb A; sum = t }) (omega arith))
      (⊎_elim (λ (t : pair_sum w 0 2 1 3 ≡ largest_pair w). by (record { all = abdc A; sum = t }) (omega arith))
      (λ (t : pair_sum w 0 3 1 2 ≡ largest_pair w). by (record { all = A; sum = t }) refl))
      (top_cases w A)
    where
      by : {a b c d : ℕ} → Longest w a b c d → left_between w 0 1 + left_between w 0 2 + left_between w 0 3 ≡ left_between w a b + left_between w a c + left_between w a d
          → left_between w 0 1 + left_between w 0 2 + left_between w 0 3 ≡ 2 * (larger w + smaller w)
      by L e = omega (arith, numbers w K L, left_sum w K L)

  left_all : total (λ k. left_between w (lo k) (hi k)) 6 0 ≡ 4 * (larger w + smaller w)
  unfolding total lo hi
  left_all = omega (arith, left_three, left_opposite w K A, left_opposite w K (acbd A), left_opposite w K (adbc A))

module _ (w : Edges) (K : is_level_cell w.count ≡ true) where
  abbrev N : ℕ
  N = crossings w

  -- the corner triangles take of all edges together three crossings each
  taken : total (λ k. least_corner w.count (lo k) + least_corner w.count (hi k)) 6 0 ≡ 3 * corner_triangles w.count
  unfolding total lo hi corner_triangles
  taken = omega arith

  on-edge : (k : ℕ) → k < 6 → count (λ i. is_in w (number w k i)) (w.count k) ≡ least_corner w.count (lo k) + least_corner w.count (hi k)
  on-edge k l =
      count_ext (λ i. is_in w (number w k i)) (corner_at w k) (w.count k) (λ i h. rw (edge-number w k i l h, index_number w k i l h))
      ∙ count_ends (w.count k) (least_corner w.count (lo k)) (least_corner w.count (hi k)) (edge_fits w K k l)

  in_corners : total (λ x. one (is_in w x)) N 0 ≡ 3 * corner_triangles w.count
  in_corners =
      sym (count_total (is_in w) N) ∙ count_edges w (is_in w)
      ∙ total_ext (λ k. count (λ i. is_in w (number w k i)) (w.count k)) (λ k. least_corner w.count (lo k) + least_corner w.count (hi k)) 6 0 (λ k _ l. on-edge k (omega arith))
      ∙ taken

  -- all crossings
  edge_parts : (k : ℕ) → k < 6 → w.count k ≡ least_corner w.count (lo k) + least_corner w.count (hi k) + left_between w.count (lo k) (hi k)
  unfolding left_between
  edge_parts k l = rw (joining_ends k l) (omega (arith, edge_fits w K k l))

  pub crossings_are : N ≡ 3 * corner_triangles w.count + 4 * (larger w.count + smaller w.count)
  unfolding pre
  crossings_are =
      total_ext w.count (λ k. least_corner w.count (lo k) + least_corner w.count (hi k) + left_between w.count (lo k) (hi k)) 6 0 (λ k _ l. edge_parts k (omega arith))
      ∙ total_add (λ k. least_corner w.count (lo k) + least_corner w.count (hi k)) (λ k. left_between w.count (lo k) (hi k)) 6 0
      ∙ ap₂ (λ m n. m + n) taken (left_all w.count K)

  -- the loops of either length
  abbrev pub threes : ℕ
  threes = total (λ p. one (eqb (loop_size w p) 3)) N 0

  abbrev pub other : ℕ → ℕ
  other p = pick (eqb (loop_size w p) 0) 0 (one (not (eqb (loop_size w p) 3)))

  abbrev pub others : ℕ
  others = total other N 0

  -- a loop of neither 0 nor 3 segments is long
  pub long_one : (p : ℕ) → p < N → loop_size w p ≢ 0 → loop_size w p ≢ 3 → loop_size w p ≡ other_length w.count
  long_one p l n m = by (is_in w p) (size_is w K p l (omega arith))
    where
      by : (b : Bool) → loop_size w p ≡ pick b 3 (other_length w.count) → loop_size w p ≡ other_length w.count
      by true f = absurd (m f)
      by false f = f

  -- by its length: none, three or long
  pub by_size : (P : ℕ → ℕ → ℕ → Type 0) → P 0 0 0 → P 3 1 0 → (0 < other_length w.count → P (other_length w.count) 0 1)
      → (p : ℕ) → p < N → P (loop_size w p) (one (eqb (loop_size w p) 3)) (other p)
  by_size P none three long p l = go (eqb (loop_size w p) 0) (eqb (loop_size w p) 3) refl refl
    where
      some : eqb (loop_size w p) 0 ≡ false → eqb (loop_size w p) 3 ≡ false → 0 < other_length w.count
      some e f = let n = eqb-false (loop_size w p) 0 e in omega (arith, long_one p l n (eqb-false (loop_size w p) 3 f))

      go : (a b : Bool) → eqb (loop_size w p) 0 ≡ a → eqb (loop_size w p) 3 ≡ b → P (loop_size w p) (one b) (pick a 0 (one (not b)))
      go true true e f = absurd (omega (arith, eqb-true (loop_size w p) 0 e, eqb-true (loop_size w p) 3 f))
      go true false e f = rw (eqb-true (loop_size w p) 0 e) none
      go false true e f = rw (eqb-true (loop_size w p) 3 f) three
      go false false e f = rw (long_one p l (eqb-false (loop_size w p) 0 e) (eqb-false (loop_size w p) 3 f)) (long (some e f))

  -- what a loop adds to the crossings in corner triangles, and to all
  adds_corner : (p : ℕ) → p < N → total (λ i. one (is_in w (half (it (step w) i (2 * p))))) (loop_size w p) 0 ≡ 3 * one (eqb (loop_size w p) 3)
  unfolding total
  adds_corner p l =
      ⊎_elim
      (λ (z : loop_size w p ≡ 0). rw z)
      (λ (z : 0 < loop_size w p).
      total_same (λ i. one (is_in w (half (it (step w) i (2 * p))))) (one (eqb (loop_size w p) 3)) (loop_size w p) 0 (λ i _ h. ap one (same_corner w K p l z i (omega arith)))
      ∙ three (eqb (loop_size w p) 3) refl)
      (eq-zero-or-pos (loop_size w p))
    where
      three : (b : Bool) → eqb (loop_size w p) 3 ≡ b → loop_size w p * one b ≡ 3 * one b
      three true e = ap (λ n. n * 1) (eqb-true (loop_size w p) 3 e)
      three false e = mul-zero (loop_size w p)

  adds_all : (p : ℕ) → p < N → total (λ i. 1) (loop_size w p) 0 ≡ 3 * one (eqb (loop_size w p) 3) + other_length w.count * other p
  adds_all p l =
      total_same (λ i. 1) 1 (loop_size w p) 0 (λ i _ _. refl) ∙ mul-one (loop_size w p)
      ∙ by_size (λ n t o. n ≡ 3 * t + other_length w.count * o) (omega (arith, mul-zero (other_length w.count))) (omega (arith, mul-zero (other_length w.count)))
      (λ _. omega (arith, mul-one (other_length w.count))) p l

  sum_corners : 3 * corner_triangles w.count ≡ 3 * threes
  unfolding loop_size
  sum_corners =
      sym in_corners ∙ sum_loops N (step w) rev (darts w) (goes w K) (λ x. one (is_in w x))
      ∙ total_ext (λ p. total (λ i. one (is_in w (half (it (step w) i (2 * p))))) (loop_size w p) 0) (λ p. 3 * one (eqb (loop_size w p) 3)) N 0 (λ p _ l. adds_corner p (omega arith))
      ∙ total_times 3 (λ p. one (eqb (loop_size w p) 3)) N 0

  sum_all : N ≡ 3 * threes + other_length w.count * others
  unfolding loop_size
  sum_all =
      sym (total_same (λ x. 1) 1 N 0 (λ q _ _. refl) ∙ mul-one N)
      ∙ sum_loops N (step w) rev (darts w) (goes w K) (λ x. 1)
      ∙ total_ext (λ p. total (λ i. 1) (loop_size w p) 0) (λ p. 3 * one (eqb (loop_size w p) 3) + other_length w.count * other p) N 0 (λ p _ l. adds_all p (omega arith))
      ∙ total_add (λ p. 3 * one (eqb (loop_size w p) 3)) (λ p. other_length w.count * other p) N 0
      ∙ ap₂ (λ m n. m + n) (total_times 3 (λ p. one (eqb (loop_size w p) 3)) N 0) (total_times (other_length w.count) other N 0)

  pub threes_are : threes ≡ corner_triangles w.count
  threes_are = omega (arith, sum_corners)

  pub others_are : others ≡ gcd (larger w.count) (smaller w.count)
  others_are =
      ⊎_elim
      (λ (z : other_length w.count ≡ 0). total_zero other N 0 (λ p _ l. by_size (λ n t o. o ≡ 0) refl refl (λ h. absurd (omega arith)) p (omega arith)) ∙ sym (no_long w.count z))
      (λ (z : 0 < other_length w.count).
      eq_of_mul-eq-mul_left (other_length w.count) z others (gcd (larger w.count) (smaller w.count)) (omega (arith, sum_all, crossings_are, threes_are, long_times w.count)))
      (eq-zero-or-pos (other_length w.count))
