-- A run of cells of a grid as a grid of its own (02, W13): `size` cells from the cell `from` on.
use Rattle.std.specs.Prelude.{◌+◌, ◌*◌, ◌/◌, ◌%◌, ℕ, Bool, List, [], ◌∷◌, map, ltb, length, get_or, take, drop}
use Rattle.counting.specs.Pick.{pick}
use Rattle.cell.specs.Renaming.{Renaming, renamed}
use Rattle.split.specs.Limits.{first_inner_crossing, first_inner_face, word_step}
use Rattle.counting.specs.Search.{some}
use Rattle.counting.specs.Lists.{over, values, kept}
use Rattle.counting.specs.Pack.{row, col}
use Rattle.grid.specs.Grid.{Grid, built, low, high, has_edge, count_of, crossing, face_name}
use Rattle.cell.specs.declared.Triangle.{Triangle}
use Rattle.mesh.specs.Mesh.{mesh_triangles}

-- r for outer crossings and faces; inner ones keep their numbers and names. Word 0 changes in the number of its cell, not in that of the sub-cell
unfoldable pub keep_inner : Renaming → Renaming
keep_inner r = record {
  cell = λ w. r.cell (w % word_step) + word_step * (w / word_step);
  crossing = λ g. pick (ltb g first_inner_crossing) (r.crossing g) g;
  face = λ f. pick (ltb f first_inner_face) (r.face f) f;
}

module _ (G : Grid) (from size : ℕ) where
  abbrev pub run_cells : List ℕ
  run_cells = take (4 * size) (drop (4 * from) G.cells)

  -- some cell of the run has edge e of the whole
  unfoldable pub in_run : ℕ → Bool
  in_run e = some (λ c. has_edge G e (from + c)) size

  -- the run's edges by their numbers in the whole, in the order of the whole; and that of the run's edge e
  unfoldable pub run_numbers : List ℕ
  run_numbers = kept in_run (length G.counts) 0

  abbrev pub in_whole : ℕ → ℕ
  in_whole e = get_or run_numbers e 0

  unfoldable pub run_edges : List ℕ
  run_edges = over (λ e. low G.edges (in_whole e) ∷ high G.edges (in_whole e) ∷ []) (length run_numbers) 0

  unfoldable pub run_counts : List ℕ
  run_counts = values (λ e. count_of G.counts (in_whole e)) (length run_numbers)

  -- the run: its crossing numbers, starts and face names are those of this grid
  abbrev pub run_grid : Grid
  run_grid = built run_cells run_edges run_counts

  -- the whole's number of the run's crossing x: that with the same index on the same edge
  unfoldable pub crossing_in_whole : ℕ → ℕ
  crossing_in_whole x = crossing G.counts (in_whole (row (count_of run_counts) (length run_counts) x)) (col (count_of run_counts) (length run_counts) x)

  -- the whole's name of the run's face f, which is slot f mod 4 of the run's cell f / 4
  unfoldable pub face_in_whole : ℕ → ℕ
  face_in_whole f = face_name G.cells (from + f / 4) (f % 4)

  -- the run's names put into those of the whole
  unfoldable pub into_whole : Renaming
  into_whole = record { cell = λ c. from + c; crossing = crossing_in_whole; face = face_in_whole }

  -- the mesh of the run in its own names, and in those of the whole; inner names stay
  unfoldable pub run_triangles : List Triangle
  run_triangles = mesh_triangles run_grid

  unfoldable pub run_renamed : List Triangle
  run_renamed = map (renamed (keep_inner into_whole)) run_triangles
