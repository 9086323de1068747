-- What is proved of runs (02, W13).
use Rattle.std.specs.Prelude.{ℕ, ◌+◌, ◌-◌, ◌*◌, ◌≤◌, ◌<◌, ◌≡◌, ◌≢◌, Result, List, leb, length}
use Rattle.counting.specs.Pick.{pick}
use Rattle.counting.specs.Lists.{pre, over}
use Rattle.grid.specs.Grid.{Grid, count_of, face_name, cell_count, start, crossings, edge_number}
use Rattle.layers.specs.Runs.{in_run, in_whole, run_cells, run_counts, run_grid, crossing_in_whole, face_in_whole, run_renamed}
use Rattle.answer.specs.Answer.{result_of}
use Rattle.answer.specs.declared.Refusal.{Refusal}
use Rattle.answer.specs.Rows.{Clear}
use Rattle.answer.specs.claims.Faults.{row_at}
use Rattle.grid.specs.Rows.{rows, grid_answer}
use Rattle.grid.specs.claims.Accepted.{Sound}
use Rattle.split.specs.Parts.{drawn_triangles}
use Rattle.mesh.specs.declared.sizes.Mesh.{Mesh}
use Rattle.mesh.specs.Numbers.{mesh_numbers}
use Rattle.mesh.specs.Mesh.{grid_cell}
use Rattle.mesh.specs.Answer.{mesh_answer, mesh_area}
use Rattle.layers.specs.Answer.{run_answer, run_area, joined_answer}
use Rattle.layers.specs.Cuts.{run_count, run_start, run_end, run_size, cut_row}

module _ (G : Grid) (from size : ℕ) where
  -- The run's starts and face names from those of the whole, without its lists: the sum of the counts of the run's edges before edge e of the whole;
  unfoldable pub own_start : ℕ → ℕ
  own_start e = pre (λ d. pick (in_run G from size d) (count_of G.counts d) 0) e

  -- and the name in the run of the face at slot s of its cell c. If the whole names the face by a slot of the run, it is that slot there; if by an
  -- earlier one, no other cell of the run has the face
  unfoldable pub own_name : ℕ → ℕ → ℕ
  own_name c s =
      pick (leb (4 * from) (face_name G.cells (from + c) s)) (face_name G.cells (from + c) s - 4 * from) (4 * c + s)

-- the run's cells are some of the grid's, and there is one
pub record RunWithin (G : Grid) (from size : ℕ) : Type 0 where
  pub some_cell : 0 < size
  pub within : from + size ≤ cell_count G.cells

-- a run of a grid without a fault of the rows 1 to 8, 18 and 10 has none either: of an accepted grid's run only row 9 can be faulty
abbrev pub RunSound : Type 0
RunSound = (G : Grid) (from size : ℕ) → Sound G → RunWithin G from size → Sound (run_grid G from size)

abbrev pub RunClear : Type 0
RunClear = (G : Grid) (from size : ℕ) (values : List ℕ) → grid_answer G ≡ result_of values → RunWithin G from size
    → (i : ℕ) → i < length (rows (run_grid G from size)) → (row_at (rows (run_grid G from size)) i).number ≢ 9 → Clear (row_at (rows (run_grid G from size)) i)

-- the run's names put into those of the whole
pub record NamesLaws (G : Grid) (from size : ℕ) : Type 0 where
  -- its edges in the same order, each with its count; edge k of a cell is that of the cell in the whole
  pub edges_rise : (d e : ℕ) → d < e → e < length (run_counts G from size) → in_whole G from size d < in_whole G from size e
  pub edge_within : (e : ℕ) → e < length (run_counts G from size) → in_whole G from size e < length G.counts
  pub count : (e : ℕ) → e < length (run_counts G from size) → count_of (run_counts G from size) e ≡ count_of G.counts (in_whole G from size e)
  pub edge : (c k : ℕ) → c < size → k < 6 → in_whole G from size (edge_number (run_grid G from size) c k) ≡ edge_number G (from + c) k
  -- its crossings in order, so that no two go over to one, each to the same index on the same edge
  pub crossing : (e i : ℕ) → e < length (run_counts G from size) → i < count_of (run_counts G from size) e
      → crossing_in_whole G from size (start (run_counts G from size) e + i) ≡ start G.counts (in_whole G from size e) + i
  pub crossings_rise : (x y : ℕ) → x < y → y < crossings (run_counts G from size) → crossing_in_whole G from size x < crossing_in_whole G from size y
  pub crossing_within : (x : ℕ) → x < crossings (run_counts G from size) → crossing_in_whole G from size x < crossings G.counts
  -- its faces, no two to one
  pub face : (c s : ℕ) → c < size → s < 4 → face_in_whole G from size (face_name (run_cells G from size) c s) ≡ face_name G.cells (from + c) s
  pub faces_once : (c s d t : ℕ) → c < size → d < size → s < 4 → t < 4
      → face_in_whole G from size (face_name (run_cells G from size) c s) ≡ face_in_whole G from size (face_name (run_cells G from size) d t)
      → face_name (run_cells G from size) c s ≡ face_name (run_cells G from size) d t

abbrev pub NamesKept : Type 0
NamesKept = (G : Grid) (from size : ℕ) → Sound G → RunWithin G from size → NamesLaws G from size

-- the counts, starts and names of the run's cells from those of the whole: what a call needs that draws a run without its lists
pub record OwnLaws (G : Grid) (from size : ℕ) : Type 0 where
  pub count : (c k : ℕ) → c < size → k < 6 → count_of (run_counts G from size) (edge_number (run_grid G from size) c k) ≡ count_of G.counts (edge_number G (from + c) k)
  pub first : (c k : ℕ) → c < size → k < 6 → start (run_counts G from size) (edge_number (run_grid G from size) c k) ≡ own_start G from size (edge_number G (from + c) k)
  pub name : (c s : ℕ) → c < size → s < 4 → face_name (run_cells G from size) c s ≡ own_name G from size c s

abbrev pub RunsOwn : Type 0
RunsOwn = (G : Grid) (from size : ℕ) → Sound G → RunWithin G from size → OwnLaws G from size

-- a run's mesh in the names of the whole is what is drawn of the run's cells in the whole
abbrev pub RunsRenamed : Type 0
RunsRenamed = (G : Grid) (from size : ℕ) → Sound G → RunWithin G from size → run_renamed G from size ≡ over (λ c. drawn_triangles (grid_cell G c)) size from

-- cuts that are not refused cut the cells into runs of one cell or more: the first from cell 0, each up to the next, the last to the end
pub record CutLaws (n : ℕ) (cuts : List ℕ) : Type 0 where
  pub first : run_start cuts 0 ≡ 0
  pub some_cell : (r : ℕ) → r < run_count cuts → run_start cuts r < run_end n cuts r
  pub next : (r : ℕ) → r < length cuts → run_end n cuts r ≡ run_start cuts (r + 1)
  pub end : run_end n cuts (length cuts) ≡ n
  pub within : (r : ℕ) → r < run_count cuts → run_end n cuts r ≤ n

abbrev pub CutsCut : Type 0
CutsCut = (G : Grid) (cuts : List ℕ) → 0 < cell_count G.cells → Clear (cut_row G cuts) → CutLaws (cell_count G.cells) cuts

-- the run call answers and writes as the mesh call does for the run's own lists, where these pass row 9 too
pub record AsGrid (G : Grid) (cuts : List ℕ) (r : ℕ) (R : Grid) : Type 0 where
  pub answer : (room : ℕ) → run_answer G cuts r room ≡ mesh_answer R room
  pub area : (before : List ℕ) → run_area G cuts r before ≡ mesh_area R before

abbrev pub RunsMeshed : Type 0
RunsMeshed = (G : Grid) (cuts values alone : List ℕ) (r : ℕ) → grid_answer G ≡ result_of values → Clear (cut_row G cuts) → r < run_count cuts
    → grid_answer (run_grid G (run_start cuts r) (run_size (cell_count G.cells) cuts r)) ≡ result_of alone
    → AsGrid G cuts r (run_grid G (run_start cuts r) (run_size (cell_count G.cells) cuts r))

-- the numbers tell the answer: no two answers of a call are read as the same numbers
abbrev pub RunTold : Type 0
RunTold = (G : Grid) (cuts : List ℕ) (run room : ℕ) (r s : Result Mesh Refusal)
    → mesh_numbers r ≡ run_answer G cuts run room → mesh_numbers s ≡ run_answer G cuts run room → r ≡ s

abbrev pub JoinedTold : Type 0
JoinedTold = (G : Grid) (cuts : List ℕ) (room : ℕ) (r s : Result Mesh Refusal)
    → mesh_numbers r ≡ joined_answer G cuts room → mesh_numbers s ≡ joined_answer G cuts room → r ≡ s
