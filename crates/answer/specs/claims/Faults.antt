-- Rows of the table of refusals that have a fault, and that have none: what a refusal tells.
use Rattle.std.specs.Prelude.{ℕ, ◌<◌, ◌≡◌, true, false, List, length, get_or}
use Rattle.answer.specs.Rows.{Row, whole, Clear}

-- the row at place i of the list; past its end one without a fault
abbrev pub row_at : List Row → ℕ → Row
row_at rows i = get_or rows i (whole 0 false)

-- a list of rows without a fault
abbrev pub AllClear : List Row → Type 0
AllClear rows = (i : ℕ) → i < length rows → Clear (row_at rows i)

-- of these rows the one with this number refuses at p: it has a fault there, none at a lower place, and no earlier row has one
pub record Refusal (rows : List Row) (number p : ℕ) : Type 0 where
  pub at : ℕ
  pub row_lt : at < length rows
  pub number_is : (row_at rows at).number ≡ number
  pub place_lt : p < (row_at rows at).places
  pub fault : (row_at rows at).fault p ≡ true
  pub lowest : (q : ℕ) → q < p → (row_at rows at).fault q ≡ false
  pub earlier : (i : ℕ) → i < at → Clear (row_at rows i)
