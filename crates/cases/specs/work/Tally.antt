-- Sums over the entries of the table, as they are counted.
use Rattle.std.specs.Prelude.{ℕ, Option, Some, None, ◌*◌, ◌<◌, ◌≡◌, List, eqb, get_or, length}
use Rattle.counting.specs.Search.{count}
use Rattle.cases.specs.claims.Cases.{entries}
use Rattle.cases.specs.claims.Tally.{triangles_at}

-- the number that is found, or that of entries
abbrev pub place_of : Option ℕ → ℕ
place_of (Some n) = n
place_of None = entries

-- the number of cells of entry n times their triangles
unfoldable pub triangles_for : List ℕ → ℕ → ℕ
triangles_for cells n = get_or cells n 0 * triangles_at n

-- no more than this: 16 bits times 8 bits
abbrev pub most_for : ℕ
most_for = 16711425

-- the list says of the first n cells how many have each entry, where cell c has the entry `place c`, or none
pub record Tallied (place : ℕ → ℕ) (n : ℕ) (l : List ℕ) : Type 0 where
  pub long : length l ≡ entries
  pub at : (e : ℕ) → e < entries → get_or l e 0 ≡ count (λ c. eqb (place c) e) n
