-- What the mesh call promises.
use Rattle.std.specs.Prelude.{ℕ, ◌≡◌, List, length}
use Rattle.grid.specs.Grid.{Grid}
use Rattle.mesh.specs.Answer.{mesh_answer, mesh_area}
use Rattle.mesh.specs.Demand.{Demand3}

-- `answer` are the numbers answered, `before` and `after` the lent area
pub record Done (G : Grid) (before after answer : List ℕ) : Type 0 where
  pub answered : answer ≡ mesh_answer G (length before)
  pub area : after ≡ mesh_area G before
  -- the mesh of every accepted grid, so of this one, is as demand 3 says
  pub demand : Demand3
