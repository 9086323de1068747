-- A grid with one count set, and with one after the other.
use Rattle.std.specs.Prelude.{ℕ, List, [], ◌∷◌}
use Rattle.grid.specs.Grid.{Grid, grid_of}
use Rattle.grid.specs.Setting.{set_counts, set_starts}

module _ (G : Grid) (edge count : ℕ) where
  -- the grid afterwards
  unfoldable pub set_grid : Grid
  set_grid = grid_of G.cells G.edges (set_counts G edge count) (set_starts G edge count)

-- a setting, and the grid after a list of them in turn, refused ones among them
pub record Setting : Type 0 where
  pub edge : ℕ
  pub count : ℕ

unfoldable pub set_all : List Setting → Grid → Grid
set_all [] G = G
set_all (s ∷ l) G = set_all l (set_grid G s.edge s.count)
