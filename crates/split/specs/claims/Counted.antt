-- How many triangles are drawn of a cell with the counts w k of its edges k (02, W9 with W12). Of a cell by value, whose counts go to 4,095, `Parts`
-- lists them; the booking is asked for any counts. So here a cell or sub-cell is given by its counts alone, however its edges are laid. Each sub-cell is
-- split again if its own two numbers ask for it, whichever node it omits.
use Rattle.std.specs.Prelude.{ℕ, zero, suc, ◌+◌, true, false, eqb}
use Rattle.cell.specs.Level.{by_edge}
use Rattle.split.specs.Labels.{labelled}
use Rattle.split.specs.SubCell.{sub_list}
use Rattle.counting.specs.Lists.{total, tally}
use Rattle.cell.specs.Loop.{loop_size, leasts}
use Rattle.cell.specs.Triangles.{triangle_count}
use Rattle.cases.specs.Answer.{lone_edges}
use Rattle.booking.specs.Booking.{larger, smaller, is_spiral, is_split}

module _ (w : ℕ → ℕ) where
  -- and the one that omits the node with the label m: its counts by edge
  unfoldable pub sub_counts : ℕ → ℕ → ℕ
  sub_counts m = by_edge (sub_list w (labelled w m))

module _ (w : ℕ → ℕ) where
  -- the triangles of all its loops
  unfoldable pub loops_count : ℕ
  loops_count = triangle_count (lone_edges w)

  -- the own corner triangles: its loops of length 3
  unfoldable pub own_count : ℕ
  own_count = tally (λ p. eqb (loop_size (lone_edges w) p) 3) (leasts (lone_edges w))

-- those of a cell or sub-cell that is split where d1 > d2 > 0: its own corner triangles, and those of the four sub-cells, which omit i, j, k and l. The
-- sum of d1 and d2 falls from split to split, so that it is enough as fuel
unfoldable pub parts_count : ℕ → (ℕ → ℕ) → ℕ
parts_count zero w = loops_count w
parts_count (suc fuel) w =
    elim (is_spiral w) [
      | false ↦ loops_count w
      | true ↦ own_count w + total (λ m. parts_count fuel (sub_counts w m)) 4 0
    ]

-- the triangles that are drawn of a cell
unfoldable pub drawn_count : (ℕ → ℕ) → ℕ
drawn_count w =
    elim (is_split w) [
      | true ↦ parts_count (larger w + smaller w) w
      | false ↦ loops_count w
    ]
