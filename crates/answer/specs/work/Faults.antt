-- Rows by their numbers.
use Rattle.std.specs.Prelude.{ℕ, Bool, true, not, ◌&&◌, List, [], ◌∷◌, eqb}
use Rattle.counting.specs.Pick.{pick}
use Rattle.answer.specs.Rows.{Row}

-- the rows from the one with this number on
unfoldable pub since : ℕ → List Row → List Row
since number [] = []
since number (row ∷ more) = pick (eqb row.number number) (row ∷ more) (since number more)

-- no row has the number 0
unfoldable pub numbered : List Row → Bool
numbered [] = true
numbered (row ∷ more) = not (eqb row.number 0) && numbered more
