-- The triangles of a cell that is booked, and its loops as they are listed.
use Prim.Native.Nat.{ℕ, ◌+◌, ◌*◌, ◌/◌, ◌<◌}
use mathlib.Core.Path.{◌≡◌, refl, ap, ap₂, ◌∙◌}
use mathlib.Core.Logic.{⊎_elim}
use mathlib.Core.Bool.{Bool, true, not}
use native.Mathlib.Omega.{arith}
use native.Mathlib.Nat.{mul-zero, mul-one, eq-zero-or-pos}
use lib.Dec.{eqb, ltb}
use lib.ListN.{length}
use borrow.Author.Tests.{eq-eqb, ne_eqb, lt-ltb}
use Rattle.counting.specs.Pick.{pick}
use Rattle.counting.specs.Lists.{one, total, tally}
use Rattle.counting.specs.Gcd.{gcd}
use Rattle.counting.proofs.Range.{total_ext, total_zero, total_add, total_times}
use Rattle.counting.proofs.Kept.{tally_kept}
use Rattle.manifold.specs.Shape.{shape_of, many_of}
use Rattle.manifold.proofs.Shapes.{shape_four, shape_else}
use Rattle.cell.specs.declared.Cell.{Cell}
use Rattle.cell.specs.Cell.{Edges, crossings, edge, step}
use Rattle.cell.specs.Of.{count_of, edges_of}
use Rattle.cell.specs.Loop.{loop_size, dart, folded, normal, leasts}
use Rattle.cell.specs.Triangles.{many_from, triangle_count, cell_triangles}
use Rattle.cell.specs.Level.{is_level_cell}
use Rattle.cell.proofs.Folds.{folded_ends}
use Rattle.cell.proofs.Loops.{dart_live, tally_darts}
use Rattle.cell.proofs.Taken.{cell-count}
use Rattle.booking.specs.Booking.{corner_triangles, larger, smaller, beside}
use Rattle.booking.specs.claims.Booking.{other_length, booked}
use Rattle.booking.proofs.Numbers.{not_three, long_times, gcd_none, long_four, long_more}
use Rattle.booking.proofs.Closed.{goes, moves}
use Rattle.booking.proofs.Count.{other, by_size, threes_are, others_are}

module _ (w : Edges) (K : is_level_cell w.count ≡ true) where
  abbrev N : ℕ
  N = crossings w

  -- no segment is folded
  pub normal_all : (p : ℕ) → p < N → normal w p ≡ true
  unfolding normal
  normal_all p l =
      eq-eqb (tally (folded w) _) 0
      (tally_darts w p l (folded w)
      ∙ total_zero (λ k. one (folded w (dart w p k))) (loop_size w p) 0
      (λ k _ h. let d = dart_live w p l k (omega arith) in
      ap one (folded_ends w (dart w p k) d (goes w K (dart w p k) d) ∙ ne_eqb (edge w (dart w p k / 2)) (edge w (step w (dart w p k) / 2)) (moves w K (dart w p k) d))))

  -- what is tallied of the listed loops
  tally_leasts : (t : ℕ → Bool) → tally t (leasts w) ≡ total (λ p. pick (ltb 0 (loop_size w p)) (one (t p)) 0) N 0
  unfolding leasts
  tally_leasts t = tally_kept (λ p. ltb 0 (loop_size w p)) t N 0

  pub tally_threes : tally (λ p. eqb (loop_size w p) 3) (leasts w) ≡ corner_triangles w.count
  tally_threes =
      tally_leasts (λ p. eqb (loop_size w p) 3)
      ∙ total_ext (λ p. pick (ltb 0 (loop_size w p)) (one (eqb (loop_size w p) 3)) 0) (λ p. one (eqb (loop_size w p) 3)) N 0 (λ p _ _. same (loop_size w p))
      ∙ threes_are w K
    where
      same : (n : ℕ) → pick (ltb 0 n) (one (eqb n 3)) 0 ≡ one (eqb n 3)
      same n = ⊎_elim (λ (e : n ≡ 0). rw e) (λ (h : 0 < n). rw (lt-ltb 0 n h)) (eq-zero-or-pos n)

  pub tally_others : tally (λ p. not (eqb (loop_size w p) 3)) (leasts w) ≡ gcd (larger w.count) (smaller w.count)
  tally_others =
      tally_leasts (λ p. not (eqb (loop_size w p) 3))
      ∙ total_ext (λ p. pick (ltb 0 (loop_size w p)) (one (not (eqb (loop_size w p) 3))) 0) (other w K) N 0 (λ p _ _. same (loop_size w p))
      ∙ others_are w K
    where
      same : (n : ℕ) → pick (ltb 0 n) (one (not (eqb n 3))) 0 ≡ pick (eqb n 0) 0 (one (not (eqb n 3)))
      same n = ⊎_elim (λ (e : n ≡ 0). rw e) (λ (h : 0 < n). rw (lt-ltb 0 n h, ne_eqb n 0 (omega arith))) (eq-zero-or-pos n)

  -- how many triangles a long loop has
  abbrev each : ℕ
  each = pick (eqb (smaller w.count) 0) 2 (other_length w.count)

  many_long : 0 < other_length w.count → many_of (shape_of (other_length w.count) true) (other_length w.count) ≡ each
  many_long h =
      ⊎_elim
      (λ (e : smaller w.count ≡ 0). rw (eq-eqb (smaller w.count) 0 e) (ap (λ s. many_of s (other_length w.count)) (shape_four (other_length w.count) true (long_four w.count e h) refl)))
      (λ (g : 0 < smaller w.count). rw (ne_eqb (smaller w.count) 0 (omega arith))
      (ap (λ s. many_of s (other_length w.count)) (shape_else (other_length w.count) true (not_three w.count) (λ e. absurd (omega (arith, long_more w.count g))))))
      (eq-zero-or-pos (smaller w.count))

  beside_is : each * gcd (larger w.count) (smaller w.count) ≡ beside (larger w.count) (smaller w.count)
  unfolding beside
  beside_is =
      ⊎_elim
      (λ (e : smaller w.count ≡ 0). rw (eq-eqb (smaller w.count) 0 e) (ap (λ n. 2 * n) (gcd_none w.count e)))
      (λ (g : 0 < smaller w.count). rw (ne_eqb (smaller w.count) 0 (omega arith)) (long_times w.count))
      (eq-zero-or-pos (smaller w.count))

  -- the triangles of a loop, and of all
  many-at : (p : ℕ) → p < N → many_from w p ≡ one (eqb (loop_size w p) 3) + each * other w K p
  unfolding many_from
  many-at p l =
      rw (normal_all p l)
      (by_size w K (λ n t o. many_of (shape_of n true) n ≡ t + each * o)
      (omega (arith, mul-zero each)) (omega (arith, mul-zero each)) (λ h. many_long h ∙ omega (arith, mul-one each)) p l)

  pub loops_booked : triangle_count w ≡ booked w.count
  unfolding triangle_count booked
  loops_booked =
      total_ext (many_from w) (λ p. one (eqb (loop_size w p) 3) + each * other w K p) N 0 (λ p _ l. many-at p (omega arith))
      ∙ total_add (λ p. one (eqb (loop_size w p) 3)) (λ p. each * other w K p) N 0
      ∙ ap₂ (λ m n. m + n) (threes_are w K) (total_times each (other w K) N 0 ∙ ap (λ n. each * n) (others_are w K) ∙ beside_is)

pub triangles-booked : (c : Cell) → is_level_cell (count_of c) ≡ true → length (cell_triangles c) ≡ booked (count_of c)
triangles-booked c K = cell-count c ∙ loops_booked (edges_of c) K
