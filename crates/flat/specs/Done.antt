-- What the chains call promises.
use Rattle.std.specs.Prelude.{ℕ, ◌≡◌, List, length}
use Rattle.flat.specs.FlatGrid.{FlatGrid}
use Rattle.flat.specs.Answer.{chains_answer, chains_area}
use Rattle.flat.specs.GridClaims.{SegmentsHold}

-- `answer` are the numbers answered, `before` and `after` the lent area
pub record Done (G : FlatGrid) (before after answer : List ℕ) : Type 0 where
  pub answered : answer ≡ chains_answer G (length before)
  pub area : after ≡ chains_area G before
  -- in every accepted flat grid, so in this one, each segment is in exactly one chain, once, a triangle leaves at most one crossing unjoined, and a
  -- crossing is in at most two segments
  pub segments : SegmentsHold
