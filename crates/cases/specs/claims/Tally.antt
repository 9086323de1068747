-- The triangles of cells that are tallied by entry: entry n of the list `cells` says how many cells have the table's entry n.
use Rattle.std.specs.Prelude.{ℕ, ◌+◌, ◌*◌, List, get_or, length}
use Rattle.counting.specs.Pick.{pick}
use Rattle.cell.specs.Common.{is_common}
use Rattle.cases.specs.claims.Cases.{entries, entry_of}
use Rattle.cell.specs.Level.{by_edge}
use Rattle.cell.specs.Triangles.{cell_triangles}
use Rattle.cell.specs.claims.Table.{taken_counts, table_cell}
use Rattle.cases.specs.claims.Table.{table}

-- the number of a cell's entry; the number of entries where it has none
unfoldable pub find_entry : (ℕ → ℕ) → ℕ
find_entry w = pick (is_common w) (entry_of w) entries

-- the triangles of a cell of entry n
unfoldable pub triangles_at : ℕ → ℕ
triangles_at n = get_or table (2 * n + 1) 0

-- of cell c of a grid's tables: the place of its entry, and how many triangles it has where it is outside the table
unfoldable pub find_entry_at : (counts sides : List ℕ) → ℕ → ℕ
find_entry_at counts sides c = find_entry (by_edge (taken_counts counts sides c))

unfoldable pub outside_at : (cells counts names sides starts : List ℕ) → ℕ → ℕ
outside_at cells counts names sides starts c = pick (is_common (by_edge (taken_counts counts sides c))) 0 (length (cell_triangles (table_cell cells counts names sides starts c)))
