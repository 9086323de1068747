-- A cell of a grid from the grid's tables, whatever stands in them; and what is made of all cells.
use Rattle.std.specs.Prelude.{ℕ, ◌+◌, ◌*◌, ◌/◌, ◌%◌, min, List, get_or, length}
use Rattle.counting.specs.Lists.{over, values}
use Rattle.slots.specs.Limits.{most_count, most_cells}
use Rattle.cell.specs.declared.Cell.{Cell}
use Rattle.cell.specs.declared.Triangle.{Triangle}
use Rattle.cell.specs.Triangles.{cell_triangles}

-- one more than the greatest number of 16 bits
abbrev pub short_limit : ℕ
short_limit = 65536

-- the edge k of cell c
abbrev pub side : List ℕ → ℕ → ℕ → ℕ
side sides c k = get_or sides (6 * c + k) 0

-- the counts and the starts of the six edges of cell c; the values of a list for its four slots or nodes
abbrev pub table_counts : (counts sides : List ℕ) → ℕ → List ℕ
table_counts counts sides c = values (λ k. get_or counts (side sides c k) 0) 6

abbrev pub table_starts : (starts sides : List ℕ) → ℕ → List ℕ
table_starts starts sides c = values (λ k. get_or starts (side sides c k) 0 % short_limit) 6

abbrev pub of_four : List ℕ → ℕ → List ℕ
of_four list c = values (λ i. get_or list (4 * c + i) 0) 4

-- a place past the end of a list reads as 0, a start is taken modulo 65,536, and so is the number of the cell
unfoldable pub table_cell : (cells counts names sides starts : List ℕ) → ℕ → Cell
table_cell cells counts names sides starts c = record {
  counts = table_counts counts sides (c % most_cells);
  starts = table_starts starts sides (c % most_cells);
  names = of_four names (c % most_cells);
  nodes = of_four cells (c % most_cells);
  index = c % most_cells;
}

-- the counts of its edges as its loops have them, none above the limit
abbrev pub taken_counts : (counts sides : List ℕ) → ℕ → List ℕ
taken_counts counts sides c = values (λ k. min (get_or counts (side sides (c % most_cells) k) 0) most_count) 6

-- so many cells are drawn: a grid has no more
abbrev pub drawn_cells : List ℕ → ℕ
drawn_cells cells = min (length cells / 4) most_cells

-- the triangles of all cells
unfoldable pub table_triangles : (cells counts names sides starts : List ℕ) → List Triangle
table_triangles cells counts names sides starts = over (λ c. cell_triangles (table_cell cells counts names sides starts c)) (drawn_cells cells) 0
