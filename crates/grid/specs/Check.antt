-- The answer of the grid check, as the numbers of 01.
use Rattle.std.specs.Prelude.{ℕ, List, [], ◌∷◌, Result}
use Rattle.answer.specs.Refusal.{answer_numbers}
use Rattle.answer.specs.declared.Refusal.{Refusal}

abbrev pub check_numbers : Result ℕ Refusal → List ℕ
check_numbers = answer_numbers (λ n. n ∷ [])
