-- How a booking is made up: splits, long loops, and the triangles of a cell without and with its splits.
use Rattle.std.specs.Prelude.{ℕ, ◌+◌, ◌-◌, ◌*◌, ◌/◌}
use Rattle.counting.specs.Pick.{pick}
use Rattle.counting.specs.Gcd.{gcd}
use Rattle.cell.specs.Level.{is_level_cell}
use Rattle.booking.specs.Figures.{are_split, splits, beside_split}
use Rattle.booking.specs.Booking.{beside, corner_triangles, larger, smaller}

-- the splits that are made, and how many triangles there are more by them
unfoldable pub splits_by : ℕ → ℕ → ℕ
splits_by x y = pick (are_split x y) (splits x y) 0

unfoldable pub more_by : ℕ → ℕ → ℕ
more_by x y = pick (are_split x y) (beside_split x y - beside x y) 0

module _ (w : ℕ → ℕ) where
  -- the length of the loops that are no corner triangles
  unfoldable pub other_length : ℕ
  other_length = 4 * (larger w + smaller w) / gcd (larger w) (smaller w)

  -- the triangles in all of the cell's loops
  unfoldable pub booked : ℕ
  booked = corner_triangles w + beside (larger w) (smaller w)

  -- the splits that are made in the cell, and how many triangles it has more by them; none where a cell is to be walked
  unfoldable pub splits_in : ℕ
  splits_in = pick (is_level_cell w) (splits_by (larger w) (smaller w)) 0

  unfoldable pub more_in : ℕ
  more_in = pick (is_level_cell w) (more_by (larger w) (smaller w)) 0
