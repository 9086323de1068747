-- The tables of a run (02, W13), made from those of the whole without a second check: names of its faces, edges of its cells by the whole's numbers, and
-- starts of those edges. The whole's counts serve the run.
use Rattle.std.specs.Prelude.{ℕ, ◌+◌, ◌*◌, ◌<◌, ◌≡◌, List, get_or}
use Rattle.cell.specs.claims.Table.{table_cell}
use Rattle.grid.specs.Grid.{Grid, edge_number}
use Rattle.grid.specs.claims.Accepted.{Sound}
use Rattle.mesh.specs.Mesh.{grid_cell}
use Rattle.layers.specs.Runs.{run_cells, run_grid}
use Rattle.layers.specs.claims.Claims.{own_start, own_name, RunWithin}

pub record RunTabled (G : Grid) (from size : ℕ) (names sides starts : List ℕ) : Type 0 where
  pub name : (c s : ℕ) → c < size → s < 4 → get_or names (4 * c + s) 0 ≡ own_name G from size c s
  pub side : (c k : ℕ) → c < size → k < 6 → get_or sides (6 * c + k) 0 ≡ edge_number G (from + c) k
  pub first : (c k : ℕ) → c < size → k < 6 → get_or starts (edge_number G (from + c) k) 0 ≡ own_start G from size (edge_number G (from + c) k)

-- they give the run's cells
abbrev pub RunsTabled : Type 0
RunsTabled = (G : Grid) (from size : ℕ) (names sides starts : List ℕ) → Sound G → RunWithin G from size → RunTabled G from size names sides starts
    → (c : ℕ) → c < size → table_cell (run_cells G from size) G.counts names sides starts c ≡ grid_cell (run_grid G from size) c
