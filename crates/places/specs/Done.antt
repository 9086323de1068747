-- What the places call promises.
use Rattle.std.specs.Prelude.{◌≡◌, List, ℕ, length, Float}
use Rattle.grid.specs.Grid.{Grid}
use Rattle.places.specs.Answer.{places_answer, places_area}
use Rattle.places.specs.Exact.{ExactCase}

-- `answer` are the numbers answered, `before` and `after` the lent area
pub record Done (G : Grid) (nodes fractions before after : List Float) (answer : List ℕ) : Type 0 where
  pub answered : answer ≡ places_answer G nodes fractions (length before)
  pub area : after ≡ places_area G nodes fractions before
  -- between whole numbers, with a fraction in 1,024ths, what is written is exact
  pub exact : ExactCase G.edges G.counts nodes fractions answer after
