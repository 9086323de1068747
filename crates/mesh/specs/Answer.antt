-- The answers of the mesh call and of the loops call, and the lent area after the mesh call.
use Rattle.std.specs.Prelude.{ℕ, List}
use Rattle.counting.specs.Pick.{pick}
use Rattle.counting.specs.Stored.{stored_in}
use Rattle.grid.specs.Grid.{Grid, cell_count}
use Rattle.grid.specs.Rows.{grid_answer, accepts}
use Rattle.mesh.specs.Mesh.{grid_cell, mesh_triangles, mesh_splits, mesh_words}
use Rattle.mesh.specs.Room.{room_answer}
use Rattle.mesh.specs.Asked.{asked_loop}

module _ (G : Grid) where
  -- the mesh call (01): rows 1 to 10 and 18; then 12 with the number of triangles needed; else the number of triangles and the number of splits (02, W12)
  unfoldable pub mesh_answer : ℕ → List ℕ
  unfolding room_answer
  mesh_answer room = pick (accepts G) (room_answer (mesh_triangles G) (mesh_splits G) room) (grid_answer G)

  -- the lent area afterwards: the words of the mesh at its front, and the rest as it was; all as it was where they have no room or the check refuses
  unfoldable pub mesh_area : List ℕ → List ℕ
  mesh_area area = pick (accepts G) (stored_in area 0 (mesh_words G)) area

  -- the loops call (01): rows 1 to 10 and 18; then 11 with the cell asked for; else loop k of cell c
  unfoldable pub loops_answer : ℕ → ℕ → List ℕ
  loops_answer c k = pick (accepts G) (asked_loop (grid_cell G) (cell_count G.cells) c k) (grid_answer G)
