-- Answers of calls that can refuse, as lists of numbers. Each crate reads its own enum into this form, and its contracts equate the reading with
-- the answer that document 01 gives. The form tells answers apart: a result starts with 0, a refusal with its number, which is not 0.
use Rattle.std.specs.Prelude.{ℕ, Bool, List, [], ◌∷◌, eqb, get_or}

-- a result, by its values
abbrev pub result_of : List ℕ → List ℕ
result_of values = 0 ∷ values

-- a refusal: its number in the table of document 01, and its place
abbrev pub refusal : ℕ → ℕ → List ℕ
refusal number place = number ∷ place ∷ []

-- an answer is a result
abbrev pub is_result : List ℕ → Bool
is_result answer = eqb (get_or answer 0 0) 0
