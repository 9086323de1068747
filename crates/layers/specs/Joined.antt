-- The runs' meshes joined are the mesh made undivided (02, W13).
use Rattle.std.specs.Prelude.{ℕ, ◌≡◌, List}
use Rattle.answer.specs.Answer.{result_of}
use Rattle.answer.specs.Rows.{Clear}
use Rattle.grid.specs.Grid.{Grid}
use Rattle.grid.specs.Rows.{grid_answer}
use Rattle.cell.specs.Words.{all_words}
use Rattle.mesh.specs.Mesh.{mesh_triangles, mesh_splits, mesh_words}
use Rattle.mesh.specs.Answer.{mesh_answer, mesh_area}
use Rattle.layers.specs.Answer.{joined_answer, joined_area}
use Rattle.layers.specs.Cuts.{cut_row, joined_mesh, joined_splits}

-- the runs' meshes joined are the mesh made undivided, triangle by triangle, and so word by word
pub record JoinedLaws (G : Grid) (cuts : List ℕ) : Type 0 where
  pub triangles : joined_mesh G cuts ≡ mesh_triangles G
  pub words : all_words (joined_mesh G cuts) ≡ mesh_words G
  pub splits : joined_splits G cuts ≡ mesh_splits G
  -- so the call that joins them answers and writes as the mesh call does
  pub answer : (room : ℕ) → joined_answer G cuts room ≡ mesh_answer G room
  pub area : (before : List ℕ) → joined_area G cuts before ≡ mesh_area G before

abbrev pub JoinedIsMesh : Type 0
JoinedIsMesh = (G : Grid) (cuts values : List ℕ) → grid_answer G ≡ result_of values → Clear (cut_row G cuts) → JoinedLaws G cuts
