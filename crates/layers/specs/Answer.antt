-- The answers of the two calls on runs (02, W13), and the lent area after them: rows 1 to 10 and 18 of the whole, 25, 26 where one run is asked for, 12.
use Rattle.std.specs.Prelude.{ℕ, Bool, not, ◌&&◌, List, ltb, length}
use Rattle.answer.specs.Answer.{refusal}
use Rattle.answer.specs.Rows.{or_refuse}
use Rattle.counting.specs.Pick.{pick}
use Rattle.counting.specs.Search.{some}
use Rattle.counting.specs.Stored.{stored_in}
use Rattle.cell.specs.Words.{all_words}
use Rattle.grid.specs.Grid.{Grid, cell_count}
use Rattle.grid.specs.Rows.{grid_answer, accepts}
use Rattle.mesh.specs.Room.{room_answer}
use Rattle.layers.specs.Cuts.{run_count, bad_cut, cut_row, run_mesh, run_splits, joined_mesh, joined_splits}

module _ (G : Grid) (cuts : List ℕ) where
  -- neither the whole nor a cut is refused
  unfoldable pub cuts_accepted : Bool
  cuts_accepted = accepts G && not (some (bad_cut (cell_count G.cells) cuts) (length cuts))

  -- rows 1 to 10, 18 and 25, then what follows
  unfoldable pub cuts_answer : List ℕ → List ℕ
  cuts_answer rest = pick (accepts G) (or_refuse (cut_row G cuts) rest) (grid_answer G)

  -- one run: 26 with the run asked for; then 12 with the triangles of that run; else their number and that of the splits
  unfoldable pub run_answer : ℕ → ℕ → List ℕ
  run_answer r room = cuts_answer (pick (ltb r (run_count cuts)) (room_answer (run_mesh G cuts r) (run_splits G cuts r) room) (refusal 26 r))

  unfoldable pub run_area : ℕ → List ℕ → List ℕ
  run_area r area = pick (cuts_accepted && ltb r (run_count cuts)) (stored_in area 0 (all_words (run_mesh G cuts r))) area

  -- all runs joined: 12 with the triangles of all
  unfoldable pub joined_answer : ℕ → List ℕ
  joined_answer room = cuts_answer (room_answer (joined_mesh G cuts) (joined_splits G cuts) room)

  unfoldable pub joined_area : List ℕ → List ℕ
  joined_area area = pick cuts_accepted (stored_in area 0 (all_words (joined_mesh G cuts))) area
