-- What splitting adds to the triangles of a cell's loops.
use Prim.Native.Nat.{ℕ, ◌+◌, ◌-◌, ◌*◌, ◌≤◌}
use mathlib.Core.Path.{◌≡◌, refl, ap, ◌∙◌}
use mathlib.Core.Bool.{Bool, true, false, ◌&&◌}
use native.Mathlib.Omega.{arith}
use lib.ListN.{length}
use Rattle.counting.specs.Pick.{pick}
use Rattle.cell.specs.declared.Cell.{Cell}
use Rattle.cell.specs.Of.{count_of}
use Rattle.cell.specs.Level.{is_level_cell}
use Rattle.cell.specs.Triangles.{cell_triangles}
use Rattle.booking.specs.Figures.{are_split, splits, beside_split}
use Rattle.booking.specs.Booking.{larger, smaller, beside, beside_drawn, is_split, booked_split}
use Rattle.booking.specs.claims.Booking.{booked, splits_by, more_by, splits_in, more_in}
use Rattle.booking.proofs.Figures.{figure_step}
use Rattle.booking.proofs.Claims.{triangles_booked}
use Rattle.booking.proofs.Drawn.{beside_more}
use Rattle.split.specs.Parts.{drawn_triangles, splits_of}
use Rattle.split.specs.claims.Claims.{DrawnGained, SplitsTold}
use Rattle.split.proofs.Lengths.{split_is, split_by, drawn_not, drawn_booked}

both : (a b : Bool) (n : ℕ) → pick a (pick b n 0) 0 ≡ pick (a && b) n 0
both true b n = refl
both false b n = refl

pub splits_told : SplitsTold
unfolding splits_in splits_by splits_of is_split
splits_told c = both (is_level_cell (count_of c)) (are_split (larger (count_of c)) (smaller (count_of c))) (splits (larger (count_of c)) (smaller (count_of c)))

-- beside the corner triangles, by the two numbers
by_numbers : (x y : ℕ) → (are_split x y ≡ true → beside x y ≤ beside_split x y) → beside_drawn x y ≡ beside x y + more_by x y
unfolding beside_drawn more_by
by_numbers x y h = go (are_split x y) refl
  where
    go : (s : Bool) → are_split x y ≡ s → pick s (beside_split x y) (beside x y) ≡ beside x y + pick s (beside_split x y - beside x y) 0
    go true e = omega (arith, h e)
    go false e = omega arith

module _ (c : Cell) where
  abbrev w : ℕ → ℕ
  w = count_of c

  enough : is_level_cell w ≡ true → are_split (larger w) (smaller w) ≡ true → beside (larger w) (smaller w) ≤ beside_split (larger w) (smaller w)
  enough K e =
      let S = split_is w (split_by w K ∙ e) in
      omega (arith, beside_more (larger w) (smaller w) S.some, figure_step (λ n. 8 * n) (λ x y. 4 * x + 10 * y) (larger w) (smaller w) S.some S.more)

  level : is_level_cell w ≡ true → length (drawn_triangles c) ≡ length (cell_triangles c) + more_in w
  unfolding booked_split booked more_in
  level K = rw K (drawn_booked c K ∙ omega (arith, by_numbers (larger w) (smaller w) (enough K), triangles_booked c K))

  other : is_level_cell w ≡ false → length (drawn_triangles c) ≡ length (cell_triangles c) + more_in w
  unfolding is_split more_in
  other e = ap length (drawn_not c (rw e refl)) ∙ rw e (omega arith)

pub drawn_gained : DrawnGained
drawn_gained c = go (is_level_cell (count_of c)) refl
  where
    go : (s : Bool) → is_level_cell (count_of c) ≡ s → length (drawn_triangles c) ≡ length (cell_triangles c) + more_in (count_of c)
    go true e = level c e
    go false e = other c e
