-- What is drawn of the cells of a grid by the grid's tables, whatever stands in them.
use Rattle.std.specs.Prelude.{ℕ, ◌+◌, ◌*◌, List}
use Rattle.counting.specs.Lists.{total, over}
use Rattle.slots.specs.Limits.{most_count, most_cells}
use Rattle.cell.specs.declared.Triangle.{Triangle}
use Rattle.cell.specs.claims.Table.{table_cell, drawn_cells}
use Rattle.cell.specs.work.Table.{most_triangles}
use Rattle.split.specs.Parts.{drawn_triangles, splits_of}

-- splitting adds at most so many triangles to a cell, and no grid has more than so many
abbrev pub most_more : ℕ
most_more = 8 * (most_count * most_count)

abbrev pub most_drawn : ℕ
most_drawn = most_triangles + most_more * most_cells

module _ (cells counts names sides starts : List ℕ) where
  -- the triangles of all cells
  unfoldable pub table_drawn : List Triangle
  table_drawn = over (λ c. drawn_triangles (table_cell cells counts names sides starts c)) (drawn_cells cells) 0

  -- the splits that are made in them
  unfoldable pub table_splits : ℕ
  table_splits = total (λ c. splits_of (table_cell cells counts names sides starts c)) (drawn_cells cells) 0
