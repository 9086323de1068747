-- Cuts of a grid (02, W13): each is the first cell of a run. Run 0 starts at cell 0, which is no cut.
use Rattle.std.specs.Prelude.{ℕ, suc, ◌-◌, Bool, not, ◌||◌, List, [], ◌∷◌, ◌++◌, ltb, length, get_or}
use Rattle.answer.specs.Rows.{Row, each}
use Rattle.counting.specs.Lists.{total, over}
use Rattle.grid.specs.Grid.{Grid, cell_count}
use Rattle.cell.specs.declared.Triangle.{Triangle}
use Rattle.mesh.specs.Mesh.{mesh_splits}
use Rattle.layers.specs.Runs.{run_grid, run_triangles, run_renamed}

abbrev pub cut_at : List ℕ → ℕ → ℕ
cut_at cuts i = get_or cuts i 0

-- how many runs there are
abbrev pub run_count : List ℕ → ℕ
run_count cuts = suc (length cuts)

-- the first cell of run r, and the first after it, where n is the number of cells
abbrev pub run_start : List ℕ → ℕ → ℕ
run_start cuts r = get_or (0 ∷ cuts) r 0

abbrev pub run_end : ℕ → List ℕ → ℕ → ℕ
run_end n cuts r = get_or (cuts ++ (n ∷ [])) r 0

abbrev pub run_size : ℕ → List ℕ → ℕ → ℕ
run_size n cuts r = run_end n cuts r - run_start cuts r

-- 25: the cut is not above the one before it (the first: not above 0), or not below the number of cells. Run i starts at the cut before cut i
unfoldable pub bad_cut : ℕ → List ℕ → ℕ → Bool
bad_cut n cuts i = not (ltb (run_start cuts i) (cut_at cuts i)) || not (ltb (cut_at cuts i) n)

abbrev pub cut_row : Grid → List ℕ → Row
cut_row G cuts = each 25 (length cuts) (bad_cut (cell_count G.cells) cuts)

module _ (G : Grid) (cuts : List ℕ) where
  -- the mesh of run r, in its own names
  unfoldable pub run_mesh : ℕ → List Triangle
  run_mesh r = run_triangles G (run_start cuts r) (run_size (cell_count G.cells) cuts r)

  -- the splits that are made in it (02, W12)
  unfoldable pub run_splits : ℕ → ℕ
  run_splits r = mesh_splits (run_grid G (run_start cuts r) (run_size (cell_count G.cells) cuts r))

  -- the meshes of the runs, one after the other, in the names of the whole; and the splits in all
  unfoldable pub joined_mesh : List Triangle
  joined_mesh = over (λ r. run_renamed G (run_start cuts r) (run_size (cell_count G.cells) cuts r)) (run_count cuts) 0

  unfoldable pub joined_splits : ℕ
  joined_splits = total run_splits (run_count cuts) 0
