-- The booking of a cell (02, W9): how many triangles it has, from the counts of its six edges, w k for edge k, and without a walk. The cells that are
-- booked are those of `is_level_cell`: no face has an odd sum or a count above the other two.
use Rattle.std.specs.Prelude.{ℕ, ◌+◌, ◌-◌, ◌*◌, min, max, Bool, ◌&&◌, eqb}
use Rattle.counting.specs.Pick.{pick}
use Rattle.counting.specs.Lists.{total}
use Rattle.slots.specs.Slots.{position, lower, upper}
use Rattle.cell.specs.Nodes.{count_between, corner_from}
use Rattle.cell.specs.Level.{is_level_cell}
use Rattle.booking.specs.Figures.{are_spiral, are_split, beside_split}

-- of three numbers the least, and the one between
abbrev pub smallest : ℕ → ℕ → ℕ → ℕ
smallest p q r = min (min p q) r

unfoldable pub median : ℕ → ℕ → ℕ → ℕ
median p q r = max (min p q) (min (max p q) r)

-- the triangles beside the corner triangles, for d1 and d2: two to each of d1 quads where d2 is 0
unfoldable pub beside : ℕ → ℕ → ℕ
beside x y = pick (eqb y 0) (2 * x) (4 * (x + y))

-- the same with the split result (02, W12) in place of the fans of a cell that is split
unfoldable pub beside_drawn : ℕ → ℕ → ℕ
beside_drawn x y = pick (are_split x y) (beside_split x y) (beside x y)

module _ (w : ℕ → ℕ) where
  -- the corner count (01) at the node at position a, of its face with the two ends of edge j, ab ac bc, of slot a; the least of these three
  unfoldable pub corner_on : ℕ → ℕ → ℕ
  corner_on a j = corner_from w a (position a (lower j)) (position a (upper j))

  unfoldable pub least_corner : ℕ → ℕ
  least_corner a = smallest (corner_on a 0) (corner_on a 1) (corner_on a 2)

  -- t, the corner triangles: at each node as many as the least of its three corner counts
  unfoldable pub corner_triangles : ℕ
  corner_triangles = total least_corner 4 0

  -- what they leave of the count between the positions a and b
  unfoldable pub left_between : ℕ → ℕ → ℕ
  left_between a b = count_between w a b - least_corner a - least_corner b

  -- d1 and d2, the two smaller of what is left at the lowest node
  unfoldable pub larger : ℕ
  larger = median (left_between 0 1) (left_between 0 2) (left_between 0 3)

  unfoldable pub smaller : ℕ
  smaller = smallest (left_between 0 1) (left_between 0 2) (left_between 0 3)

  -- d1 > d2 > 0
  unfoldable pub is_spiral : Bool
  is_spiral = are_spiral larger smaller

  -- a cell is split (02, W12) if it is one that is booked, with d1 > d2 > 0 and a common divisor above 1; of a sub-cell only d1 > d2 > 0 is asked
  unfoldable pub is_split : Bool
  is_split = is_level_cell w && are_split larger smaller

  -- the triangles in all that are drawn of the cell
  unfoldable pub booked_split : ℕ
  booked_split = corner_triangles + beside_drawn larger smaller
