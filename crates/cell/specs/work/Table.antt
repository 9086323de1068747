-- What is counted and written over the tables of a grid.
use Rattle.std.specs.Prelude.{ℕ, zero, suc, ◌+◌, ◌*◌, Bool, ◌||◌, List, [], length, Float}
use Rattle.cell.specs.Level.{is_level_cell, by_edge}
use Rattle.cell.specs.Common.{is_common}
use Rattle.counting.specs.Pick.{pick}
use Rattle.counting.specs.Lists.{total}
use Rattle.cell.specs.Cell.{crossings}
use Rattle.cell.specs.Of.{edges_of}
use Rattle.cell.specs.work.Limits.{most_in_cell}
use Rattle.cell.specs.Triangles.{cell_triangles}
use Rattle.cell.specs.claims.Middles.{fan_count, points_then, next_point}
use Rattle.slots.specs.Limits.{most_cells}
use Rattle.cell.specs.claims.Table.{table_cell, taken_counts, drawn_cells}

-- the cells whose triangles are counted without a walk: by an entry of the table, or by the booking
unfoldable pub is_known : (ℕ → ℕ) → Bool
is_known w = is_common w || is_level_cell w

-- how many crossings it has, whatever its nodes, names and starts
unfoldable pub table_crossings : (counts sides : List ℕ) → ℕ → ℕ
table_crossings counts sides c = crossings (edges_of (table_cell [] counts [] sides [] c))

-- how many triangles cell c has where they are counted by a walk, else 0
unfoldable pub walked_at : (cells counts names sides starts : List ℕ) → ℕ → ℕ
walked_at cells counts names sides starts c = pick (is_known (by_edge (taken_counts counts sides c))) 0 (length (cell_triangles (table_cell cells counts names sides starts c)))

-- the most triangles that a grid can have: no cell has more than crossings
abbrev pub most_triangles : ℕ
most_triangles = most_in_cell * most_cells

module _ (cells counts names sides starts : List ℕ) where
  -- how many fans all cells have
  unfoldable pub table_fans : ℕ
  table_fans = total (λ c. fan_count (table_cell cells counts names sides starts c)) (drawn_cells cells) 0

  -- the area and the next point, once the middles of n cells from number `first` on are written from point `at` on
  unfoldable pub middles_written : (nodes : List Float) (first : ℕ) (area : List Float) (at n : ℕ) → List Float × ℕ
  middles_written nodes first area at zero = (area, at)
  middles_written nodes first area at (suc n) =
      let v = table_cell cells counts names sides starts (first + n) in
      let w = middles_written nodes first area at n in
      (points_then nodes v w.0 w.1, next_point nodes v w.0 w.1)
