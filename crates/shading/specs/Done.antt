-- What the shading call promises.
use Rattle.std.specs.Prelude.{ℕ, ◌≡◌, List, length}
use Rattle.grid.specs.Grid.{Grid}
use Rattle.shading.specs.Answer.{shading_answer, shading_area}

-- `answer` are the numbers answered, `before` and `after` the lent area
pub record Done (G : Grid) (before after answer : List ℕ) : Type 0 where
  pub answered : answer ≡ shading_answer G (length before)
  pub area : after ≡ shading_area G before
