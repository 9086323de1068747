-- Rows of the table of refusals (01): each is a test of its places. A call refuses by the first of its rows that has a fault, at the lowest place.
use Rattle.std.specs.Prelude.{ℕ, ◌<◌, Bool, false, List, [], ◌∷◌, ◌≡◌, ltb}
use Rattle.counting.specs.Pick.{pick}
use Rattle.counting.specs.Search.{first}
use Rattle.answer.specs.Answer.{refusal}

-- a row: its number in the table, how many places it has, and which of them are faulty
pub record Row : Type 0 where
  pub number : ℕ
  pub places : ℕ
  pub fault : ℕ → Bool

-- a fault of the whole has the place 0
abbrev pub whole : ℕ → Bool → Row
whole number b = record { number = number; places = 1; fault = λ p. b }

abbrev pub each : ℕ → ℕ → (ℕ → Bool) → Row
each number places fault = record { number = number; places = places; fault = fault }

-- the refusal of a row at its lowest fault, or else what follows
unfoldable pub or_refuse : Row → List ℕ → List ℕ
or_refuse row rest =
    pick (ltb (first row.fault row.places) row.places) (refusal row.number (first row.fault row.places)) rest

-- the refusal of the first of these rows that has a fault; else the last answer
unfoldable pub answer_of : List Row → List ℕ → List ℕ
answer_of [] rest = rest
answer_of (row ∷ more) rest = or_refuse row (answer_of more rest)

-- a row without a fault
abbrev pub Clear : Row → Type 0
Clear row = (p : ℕ) → p < row.places → row.fault p ≡ false
