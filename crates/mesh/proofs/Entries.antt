-- The triangles of the mesh by the entries of the table of common cells: no common cell is split, so each has the triangles of its entry.
use Prim.Native.Nat.{ℕ, ◌+◌, ◌≤◌}
use mathlib.Core.Path.{◌≡◌, refl, sym, ap, ◌∙◌}
use mathlib.Core.Bool.{Bool, true, false}
use native.Mathlib.Omega.{arith}
use lib.Dec.{ltb}
use lib.ListN.{length}
use borrow.Author.Tests.{ltb-true}
use Rattle.counting.specs.Pick.{pick}
use Rattle.counting.specs.Lists.{total}
use Rattle.counting.specs.Gcd.{gcd}
use Rattle.counting.proofs.Bools.{and_right, not_clash}
use Rattle.counting.proofs.Range.{total_ext, total_add, length_over}
use Rattle.counting.proofs.Search.{count_sorted}
use Rattle.counting.proofs.Gcd.{gcd_above}
use Rattle.slots.specs.Slots.{edge_between}
use Rattle.cell.specs.declared.Cell.{Cell}
use Rattle.cell.specs.Of.{count_of, edges_of}
use Rattle.cell.specs.Nodes.{joining}
use Rattle.cell.specs.Level.{is_level_cell}
use Rattle.cell.specs.Common.{is_common}
use Rattle.cell.specs.Triangles.{triangle_count}
use Rattle.cell.proofs.Taken.{cell-count}
use Rattle.cases.specs.claims.Cases.{entries, entry_of}
use Rattle.cases.specs.claims.Tally.{find_entry, triangles_at}
use Rattle.cases.proofs.Digits.{few}
use Rattle.cases.proofs.Claims.{entry_triangles, by_place}
use Rattle.grid.specs.Grid.{cell_count}
use Rattle.booking.specs.Figures.{are_spiral, are_split}
use Rattle.booking.specs.Booking.{median, left_between, larger, smaller, is_split, booked_split}
use Rattle.split.specs.Parts.{drawn_triangles}
use Rattle.split.proofs.Lengths.{split_is, drawn_not}
use Rattle.split.proofs.Claims.{drawn_booked}
use Rattle.mesh.specs.Mesh.{grid_cell, mesh_triangles}
use Rattle.mesh.specs.claims.Claims.{outside_triangles, MeshByEntry}

median_le : (p q r n : ℕ) → p ≤ n → q ≤ n → median p q r ≤ n
unfolding median
median_le p q r n a b = omega arith

-- d1 is no more than a count, and a split asks for 3 or more
larger_few : (w : ℕ → ℕ) → is_common w ≡ true → larger w ≤ 2
unfolding larger left_between joining edge_between
larger_few w C = median_le (left_between w 0 1) (left_between w 0 2) (left_between w 0 3) 2 (omega (arith, few w C 0 (omega arith))) (omega (arith, few w C 1 (omega arith)))

common_whole : (w : ℕ → ℕ) → is_common w ≡ true → is_split w ≡ false
unfolding is_split are_split
common_whole w C = not_clash (is_split w) (λ e.
    let S = split_is w e in
    let g = and_right (are_spiral (larger w) (smaller w)) (ltb 1 (gcd (larger w) (smaller w))) (and_right (is_level_cell w) (are_split (larger w) (smaller w)) e) in
    omega (arith, larger_few w C, S.more, gcd_above (larger w) (smaller w) S.some (ltb-true 1 (gcd (larger w) (smaller w)) g)))

walked_whole : (w : ℕ → ℕ) → is_level_cell w ≡ false → is_split w ≡ false
unfolding is_split
walked_whole w e = rw e refl

by_entry : (c : Cell) → length (drawn_triangles c) ≡ pick (ltb (find_entry (count_of c)) entries) (triangles_at (find_entry (count_of c))) 0 + outside_triangles c
by_entry c = rw (by_place (count_of c)) (go (is_common (count_of c)) (is_level_cell (count_of c)) refl refl)
  where
    go : (a b : Bool) → is_common (count_of c) ≡ a → is_level_cell (count_of c) ≡ b
        → length (drawn_triangles c) ≡ pick a (triangles_at (entry_of (count_of c))) 0 + pick a 0 (pick b (booked_split (count_of c)) (triangle_count (edges_of c)))
    go true b C K = ap length (drawn_not c (common_whole (count_of c) C)) ∙ sym (entry_triangles c C) ∙ omega arith
    go false true C K = drawn_booked c K ∙ omega arith
    go false false C K = ap length (drawn_not c (walked_whole (count_of c) K)) ∙ cell-count c ∙ omega arith

pub mesh_by_entry : MeshByEntry
unfolding mesh_triangles
mesh_by_entry G =
    length_over (λ c. drawn_triangles (grid_cell G c)) n 0
    ∙ total_ext (λ c. length (drawn_triangles (grid_cell G c))) (λ c. own c + outside_triangles (grid_cell G c)) n 0 (λ c a b. by_entry (grid_cell G c))
    ∙ total_add own (λ c. outside_triangles (grid_cell G c)) n 0
    ∙ ap (λ t. t + total (λ c. outside_triangles (grid_cell G c)) n 0) (sym (count_sorted (λ c. find_entry (count_of (grid_cell G c))) triangles_at entries n))
  where
    n : ℕ
    n = cell_count G.cells

    own : ℕ → ℕ
    own c = pick (ltb (find_entry (count_of (grid_cell G c))) entries) (triangles_at (find_entry (count_of (grid_cell G c)))) 0
