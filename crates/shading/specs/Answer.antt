-- The answer of the shading call, and the lent area after it.
use Rattle.std.specs.Prelude.{ℕ, not, List, [], ◌∷◌, eqb, length, Result}
use Rattle.answer.specs.Answer.{result_of, is_result}
use Rattle.answer.specs.Refusal.{answer_numbers}
use Rattle.answer.specs.declared.Refusal.{Refusal}
use Rattle.answer.specs.Rows.{Row, whole, answer_of}
use Rattle.counting.specs.Pick.{pick}
use Rattle.grid.specs.Grid.{Grid}
use Rattle.grid.specs.Rows.{grid_answer, accepts}
use Rattle.shading.specs.Marks.{most_nodes, unshaded, side_bytes}

-- what the call answers: the area is written, or a refusal
abbrev pub Shaded : Type 0
Shaded = Result (Unit {0}) Refusal

-- the call's answer as numbers: a result has none
abbrev pub shading_numbers : Shaded → List ℕ
shading_numbers = answer_numbers (λ _. [])

module _ (G : Grid) where
  -- the rows 19 and 20 (02), for an area of `room` bytes
  unfoldable pub shading_rows : ℕ → List Row
  shading_rows room = whole 19 (not (eqb room most_nodes)) ∷ whole 20 (unshaded G) ∷ []

  -- the shading call: rows 1 to 10 and 18 of the grid; then 19 and 20
  unfoldable pub shading_answer : ℕ → List ℕ
  shading_answer room = pick (accepts G) (answer_of (shading_rows room) (result_of [])) (grid_answer G)

  -- the lent area afterwards: the sides; all as it was where the call refuses
  unfoldable pub shading_area : List ℕ → List ℕ
  shading_area area = pick (is_result (shading_answer (length area))) (side_bytes G) area
