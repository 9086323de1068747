-- What the two calls promise.
use Rattle.std.specs.Prelude.{ℕ, ◌≡◌, List, length}
use Rattle.grid.specs.Grid.{Grid}
use Rattle.mesh.specs.Demand.{Demand3}
use Rattle.layers.specs.Answer.{run_answer, run_area, joined_answer, joined_area}
use Rattle.layers.specs.Joined.{JoinedIsMesh}

-- `answer` are the numbers answered, `before` and `after` the lent area
pub record RunDone (G : Grid) (cuts : List ℕ) (run : ℕ) (before after answer : List ℕ) : Type 0 where
  pub answered : answer ≡ run_answer G cuts run (length before)
  pub area : after ≡ run_area G cuts run before

pub record JoinedDone (G : Grid) (cuts before after answer : List ℕ) : Type 0 where
  pub answered : answer ≡ joined_answer G cuts (length before)
  pub area : after ≡ joined_area G cuts before
  -- the runs of every accepted grid, so of this one, make its mesh where no cut is refused
  pub undivided : JoinedIsMesh
  -- which is as demand 3 says, over cuts as within a run
  pub demand : Demand3
