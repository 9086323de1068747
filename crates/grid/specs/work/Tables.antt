-- The tables that the grid check hands to the calls above it.
use Rattle.std.specs.Prelude.{ℕ, ◌*◌, ◌/◌, ◌%◌, ◌≡◌, List}
use Rattle.counting.specs.Pick.{pick}
use Rattle.counting.specs.Stored.{filled}
use Rattle.grid.specs.Grid.{Grid, cell_count, face_name, edge_number}
use Rattle.grid.specs.Rows.{accepts}

-- the name of face 4 c + s of the cells
abbrev pub name_at : List ℕ → ℕ → ℕ
name_at cells j = face_name cells (j / 4) (j % 4)

-- the number of edge k of cell c, at 6 c + k
abbrev pub side_at : Grid → ℕ → ℕ
side_at G j = edge_number G (j / 6) (j % 6)

-- what `lay` leaves in the two lent tables, where they held names₀ and sides₀: of an accepted grid the tables, and beyond them what was there; else
-- all that was there
pub record Laid (G : Grid) (names₀ sides₀ names sides : List ℕ) : Type 0 where
  pub names_are : names ≡ pick (accepts G) (filled (name_at G.cells) (4 * cell_count G.cells) names₀) names₀
  pub sides_are : sides ≡ pick (accepts G) (filled (side_at G) (6 * cell_count G.cells) sides₀) sides₀
