-- Where numbers were met before: a table by the number, in place of a chain.
use Rattle.std.specs.Prelude.{ℕ, ◌<◌, ◌≡◌, List, length, get_or}
use Rattle.counting.specs.Search.{last}
use Rattle.grid.specs.work.Walks.{labelled}

-- for each number that has room, one more than the last place before j that has it, or 0; f has the numbers
pub record Seen (f : ℕ → ℕ) (j : ℕ) (seen : List ℕ) : Type 0 where
  pub at : (k : ℕ) → k < length seen → get_or seen k 0 ≡ last (labelled f k) j
