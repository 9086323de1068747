-- The numbers tell the answers.
use Prim.Native.Nat.{ℕ, ◌*◌}
use mathlib.Core.Path.{◌≡◌}
use mathlib.Core.List.{List, [], ◌∷◌}
use lib.Dec.{ltb, leb}
use lib.ListN.{length}
use Rattle.answer.specs.Answer.{result_of, refusal}
use Rattle.answer.specs.Rows.{or_refuse}
use Rattle.answer.proofs.Answer.{no_nil, pick_some}
use Rattle.counting.specs.Pick.{pick}
use Rattle.counting.specs.Search.{first}
use Rattle.cell.specs.declared.Triangle.{Triangle}
use Rattle.cell.specs.Words.{word_count}
use Rattle.grid.specs.Grid.{Grid, cell_count}
use Rattle.grid.specs.Rows.{grid_answer, accepts}
use Rattle.grid.proofs.Claims.{never_empty}
use Rattle.mesh.specs.Room.{room_answer}
use Rattle.mesh.proofs.Claims.{mesh_tells}
use Rattle.layers.specs.Cuts.{run_count, bad_cut, cut_row, run_mesh, run_splits, joined_mesh, joined_splits}
use Rattle.layers.specs.Answer.{cuts_answer, run_answer, joined_answer}
use Rattle.layers.specs.claims.Claims.{RunTold, JoinedTold}

-- there is always an answer
room_some : (mesh : List Triangle) (splits room : ℕ) → [] ≡ room_answer mesh splits room → ⊥
unfolding room_answer
room_some mesh splits room = pick_some (leb (word_count * length mesh) room) (result_of (length mesh ∷ splits ∷ [])) (refusal 12 (length mesh)) no_nil no_nil

module _ (G : Grid) (cuts : List ℕ) where
  cuts_some : (rest : List ℕ) → ([] ≡ rest → ⊥) → [] ≡ cuts_answer G cuts rest → ⊥
  unfolding cuts_answer or_refuse
  cuts_some rest h =
      let b = first (bad_cut (cell_count G.cells) cuts) (length cuts) in
      pick_some (accepts G) (or_refuse (cut_row G cuts) rest) (grid_answer G) (pick_some (ltb b (length cuts)) (refusal 25 b) rest no_nil h) (never_empty G)

  pub run_some : (run room : ℕ) → [] ≡ run_answer G cuts run room → ⊥
  unfolding run_answer
  run_some run room =
      cuts_some (pick (ltb run (run_count cuts)) (room_answer (run_mesh G cuts run) (run_splits G cuts run) room) (refusal 26 run))
      (pick_some (ltb run (run_count cuts)) (room_answer (run_mesh G cuts run) (run_splits G cuts run) room) (refusal 26 run) (room_some (run_mesh G cuts run) (run_splits G cuts run) room) no_nil)

  pub joined_some : (room : ℕ) → [] ≡ joined_answer G cuts room → ⊥
  unfolding joined_answer
  joined_some room = cuts_some (room_answer (joined_mesh G cuts) (joined_splits G cuts) room) (room_some (joined_mesh G cuts) (joined_splits G cuts) room)

pub run_told : RunTold
run_told G cuts run room = mesh_tells (run_answer G cuts run room)

pub joined_told : JoinedTold
joined_told G cuts room = mesh_tells (joined_answer G cuts room)
