-- How many triangles are drawn of a cell with any counts: the recursion over its sub-cells' counts comes to what is booked.
use Prim.Native.Nat.{ℕ, zero, suc, ◌+◌, ◌≤◌, ◌<◌}
use mathlib.Core.Path.{◌≡◌, refl, sym, ap, ◌∙◌}
use mathlib.Core.Bool.{Bool, true, false}
use native.Mathlib.Omega.{arith}
use lib.ListN.{length}
use Rattle.counting.specs.Lists.{total}
use Rattle.cell.specs.Of.{count_of, edges_of}
use Rattle.cell.specs.Level.{is_level_cell}
use Rattle.cell.proofs.Taken.{cell-count}
use Rattle.cases.specs.Answer.{lone_edges}
use Rattle.cases.proofs.Claims.{laid_anyhow}
use Rattle.booking.specs.Booking.{corner_triangles, larger, smaller, is_spiral, is_split, booked_split}
use Rattle.booking.specs.claims.Booking.{booked}
use Rattle.booking.specs.Figures.{beside_split}
use Rattle.booking.proofs.Triangles.{tally_threes, loops_booked}
use Rattle.split.specs.claims.Counted.{sub_counts, loops_count, own_count, parts_count, drawn_count}
use Rattle.split.specs.Parts.{drawn_triangles}
use Rattle.split.specs.claims.Claims.{BookedByParts, DrawnByParts}
use Rattle.split.proofs.Labels.{spiral_is}
use Rattle.split.proofs.SubNumbers.{sub_counted}
use Rattle.split.proofs.Parts.{not_spiral}
use Rattle.split.proofs.Lengths.{split_is, end_sum, five_sum, drawn_not, drawn_counted, booked-split, booked_whole}

-- the loops of one cell, by the booking of any edges
module _ (w : ℕ → ℕ) (K : is_level_cell w ≡ true) where
  loops_are : loops_count w ≡ booked w
  unfolding loops_count
  loops_are = loops_booked (lone_edges w) K

  own_are : own_count w ≡ corner_triangles w
  unfolding own_count
  own_are = tally_threes (lone_edges w) K

-- one step of the recursion
stop : (fuel : ℕ) (w : ℕ → ℕ) → is_spiral w ≡ false → parts_count fuel w ≡ loops_count w
unfolding parts_count
stop zero w e = refl
stop (suc fuel) w e = rw (e, parts_count)

four_are : (f : ℕ → ℕ) → total f 4 0 ≡ f 3 + (f 2 + (f 1 + f 0))
unfolding total
four_are f = omega arith

more : (fuel : ℕ) (w : ℕ → ℕ) → is_spiral w ≡ true
    → parts_count (suc fuel) w ≡ own_count w + (parts_count fuel (sub_counts w 3) + (parts_count fuel (sub_counts w 2) + (parts_count fuel (sub_counts w 1) + parts_count fuel (sub_counts w 0))))
unfolding parts_count
more fuel w e = rw (e, parts_count) (rw (four_are (λ m. parts_count fuel (sub_counts w m))) refl)

parts_booked : (fuel : ℕ) (w : ℕ → ℕ) → is_level_cell w ≡ true → 0 < smaller w → larger w + smaller w ≤ fuel
    → parts_count fuel w ≡ corner_triangles w + beside_split (larger w) (smaller w)
parts_booked zero w K p h = absurd (omega arith)
parts_booked (suc fuel) w K p h = go (is_spiral w) refl (parts_booked fuel (sub_counts w 2))
  where
    k : ℕ → ℕ
    k = sub_counts w 2

    go : (s : Bool) → is_spiral w ≡ s
        → (is_level_cell k ≡ true → 0 < smaller k → larger k + smaller k ≤ fuel → parts_count fuel k ≡ corner_triangles k + beside_split (larger k) (smaller k))
        → parts_count (suc fuel) w ≡ corner_triangles w + beside_split (larger w) (smaller w)
    go false e i = stop (suc fuel) w e ∙ loops_are w K ∙ end_sum w p (not_spiral w e p)
    go true e i =
        let (some, apart) = spiral_is w e in
        let S = sub_counted w K some apart in
        more fuel w e
        ∙ five_sum w some apart S.omits-l S.omits_k S.omits-j S.omits-i (own_are w K)
        (stop fuel (sub_counts w 3) (S.others 3 (omega arith) (λ q. omega arith)) ∙ loops_are (sub_counts w 3) S.omits-l.level)
        (i S.omits_k.level (omega (arith, S.omits_k.second)) (omega (arith, S.omits_k.first, S.omits_k.second)))
        (stop fuel (sub_counts w 1) (S.others 1 (omega arith) (λ q. omega arith)) ∙ loops_are (sub_counts w 1) S.omits-j.level)
        (stop fuel (sub_counts w 0) (S.others 0 (omega arith) (λ q. omega arith)) ∙ loops_are (sub_counts w 0) S.omits-i.level)

-- of a cell that is not split, and of one that is
count_whole : (w : ℕ → ℕ) → is_split w ≡ false → drawn_count w ≡ loops_count w
unfolding drawn_count
count_whole w e = rw (e, drawn_count)

count_split : (w : ℕ → ℕ) → is_split w ≡ true → drawn_count w ≡ corner_triangles w + beside_split (larger w) (smaller w)
unfolding drawn_count
count_split w e = let S = split_is w e in rw (e, drawn_count) (parts_booked (larger w + smaller w) w S.level S.some (omega arith))

pub booked_by_parts : BookedByParts
booked_by_parts w K = go (is_split w) refl
  where
    go : (s : Bool) → is_split w ≡ s → drawn_count w ≡ booked_split w
    go true e = count_split w e ∙ sym (booked-split w K e)
    go false e = count_whole w e ∙ loops_are w K ∙ sym (booked_whole w K e)

pub drawn_by_parts : DrawnByParts
unfolding loops_count
drawn_by_parts c = go (is_split (count_of c)) refl
  where
    go : (s : Bool) → is_split (count_of c) ≡ s → length (drawn_triangles c) ≡ drawn_count (count_of c)
    go true e = drawn_counted c e ∙ sym (count_split (count_of c) e)
    go false e = ap length (drawn_not c e) ∙ cell-count c ∙ (laid_anyhow (edges_of c) (lone_edges (count_of c)) (λ k _. refl)).1 ∙ sym (count_whole (count_of c) e)
