-- Inner crossings and inner faces among those of all cells of a grid (02, W12): each belongs to its cell, and goes by its number or name there and by its
-- cell. Outer ones keep their numbers and names. So two are told apart as 02 says, by numbers alone.
use Rattle.std.specs.Prelude.{ℕ, ◌+◌, ◌-◌, ◌*◌, ltb}
use Rattle.counting.specs.Pick.{pick}
use Rattle.manifold.specs.Triangle.{Corner, cross, middle, Side, seg, inner}
use Rattle.slots.specs.Limits.{most_cells}
use Rattle.split.specs.Limits.{first_inner_crossing, first_inner_face}

-- of the cell with the number `cell`, where the inner ones start at `first`
unfoldable pub owned : (first cell : ℕ) → ℕ → ℕ
owned first cell g = pick (ltb g first) g (first + (g - first) * most_cells + cell)

-- corners and sides of triangles of the cell by these names. A middle and an inner side have word 0 in their names already
abbrev pub owned_corner : ℕ → Corner → Corner
owned_corner cell (cross g) = cross (owned first_inner_crossing cell g)
owned_corner cell (middle w p) = middle w (owned first_inner_crossing cell p)

abbrev pub owned_side : ℕ → Side → Side
owned_side cell (seg f g) = seg (owned first_inner_face cell f) (owned first_inner_crossing cell g)
owned_side cell (inner w p k) = inner w (owned first_inner_crossing cell p) k
