-- The answer of the chains call, as numbers (02, W11): a result has the number of words.
use Rattle.std.specs.Prelude.{ℕ, List, [], ◌∷◌, Result}
use Rattle.answer.specs.Refusal.{answer_numbers}
use Rattle.answer.specs.declared.Refusal.{Refusal}

abbrev pub traced_numbers : Result ℕ Refusal → List ℕ
traced_numbers = answer_numbers (λ words. words ∷ [])
