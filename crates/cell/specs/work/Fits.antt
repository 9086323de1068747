-- What is left in an area where the words of a cell's triangles are written from index `at` on, and those of several cells.
use Rattle.std.specs.Prelude.{ℕ, zero, suc, ◌+◌, List}
use Rattle.counting.specs.Stored.{stored_in}
use Rattle.counting.specs.claims.Lists.{next_in}
use Rattle.cell.specs.declared.Cell.{Cell}
use Rattle.cell.specs.Words.{all_words}
use Rattle.cell.specs.Triangles.{cell_triangles}

module _ (c : Cell) (area : List ℕ) (at : ℕ) where
  -- the answer: the index after the last word, or `at` where they have no room
  unfoldable pub next_at : ℕ
  next_at = next_in area at (all_words (cell_triangles c))

  -- the area then: with the words, or as it was
  unfoldable pub area_then : List ℕ
  area_then = stored_in area at (all_words (cell_triangles c))

-- The same for cells one after the other, from number `first` and index `at` on, each that has room from where the one before it left off: the next
-- index and the area after n of them. Writing keeps the area's length, by which alone the next index goes.
module _ (cell : ℕ → Cell) (first : ℕ) (area : List ℕ) (at : ℕ) where
  unfoldable pub next_after : ℕ → ℕ
  next_after zero = at
  next_after (suc n) = next_at (cell (first + n)) area (next_after n)

  unfoldable pub area_after : ℕ → List ℕ
  area_after zero = area
  area_after (suc n) = area_then (cell (first + n)) (area_after n) (next_after n)
