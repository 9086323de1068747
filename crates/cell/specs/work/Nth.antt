-- Triangle t of a list, or none, and its reading in numbers.
use Rattle.std.specs.Prelude.{ℕ, List, [], ◌∷◌, Option, Some, None, drop}
use Rattle.answer.specs.Answer.{result_of}
use Rattle.cell.specs.declared.Triangle.{Triangle}
use Rattle.cell.specs.Words.{words}

-- the first of a list
abbrev pub first_of : List Triangle → Option Triangle
first_of [] = None
first_of (t ∷ l) = Some t

-- triangle t of a list; none where t is not below its length
unfoldable pub nth_of : List Triangle → ℕ → Option Triangle
nth_of l t = first_of (drop t l)

-- what is answered, in numbers: the words of the triangle, or no words
abbrev pub nth_numbers : Option Triangle → List ℕ
nth_numbers (Some t) = result_of (words t)
nth_numbers None = result_of []

abbrev pub first_words : List Triangle → List ℕ
first_words [] = result_of []
first_words (t ∷ l) = result_of (words t)

unfoldable pub nth_answer : List Triangle → ℕ → List ℕ
nth_answer l t = first_words (drop t l)
