-- The answer of the chains call (02, W11), and the lent area after it.
use Rattle.std.specs.Prelude.{ℕ, List, [], ◌∷◌, leb, length}
use Rattle.answer.specs.Answer.{result_of, refusal}
use Rattle.counting.specs.Pick.{pick}
use Rattle.counting.specs.Stored.{stored_in}
use Rattle.flat.specs.FlatGrid.{FlatGrid}
use Rattle.flat.specs.Rows.{flat_answer, accepts}
use Rattle.flat.specs.Chains.{chains_words}

-- the numbers answered for so many words and an area of so many: row 24 with the words needed, or their number
unfoldable pub words_answer : ℕ → ℕ → List ℕ
words_answer words room = pick (leb words room) (result_of (words ∷ [])) (refusal 24 words)

module _ (G : FlatGrid) where
  -- the rows of the check; then 24; else the number of words
  unfoldable pub chains_answer : ℕ → List ℕ
  unfolding words_answer
  chains_answer room = pick (accepts G) (words_answer (length (chains_words G)) room) (flat_answer G)

  -- the lent area afterwards: the words at its front, and the rest as it was; all as it was where they have no room or the check refuses
  unfoldable pub chains_area : List ℕ → List ℕ
  chains_area area = pick (accepts G) (stored_in area 0 (chains_words G)) area
