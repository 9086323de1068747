-- The answer of the places call, and the lent area after it.
use Rattle.std.specs.Prelude.{ℕ, ◌*◌, Bool, Result, List, [], ◌∷◌, length, Float}
use Rattle.std.proofs.lemmas.List.Edits.{sets}
use Rattle.answer.specs.Answer.{result_of, is_result}
use Rattle.answer.specs.Refusal.{answer_numbers}
use Rattle.answer.specs.declared.Refusal.{Refusal}
use Rattle.answer.specs.Rows.{Row, whole, each, answer_of}
use Rattle.counting.specs.Pick.{pick}
use Rattle.grid.specs.Grid.{Grid, crossings}
use Rattle.grid.specs.Rows.{grid_answer, accepts}
use Rattle.place.specs.Place.{coordinates, all_numbers}
use Rattle.places.specs.Points.{points}
use Rattle.places.specs.Rows.{node_end, bad_place_lists, bad_number, bad_fraction}

-- the call's answer as the numbers of 01
abbrev pub places_numbers : Result ℕ Refusal → List ℕ
places_numbers = answer_numbers (λ n. n ∷ [])

module _ (cells counts : List ℕ) (nodes fractions : List Float) (needed room : ℕ) where
  -- the rows 15, 16 and 17, for so many points and an area of `room` numbers
  unfoldable pub place_rows : List Row
  place_rows =
      whole 15 (bad_place_lists cells counts nodes fractions needed room)
      ∷ each 16 (coordinates * node_end cells) (bad_number cells nodes)
      ∷ each 17 (crossings counts) (bad_fraction counts fractions)
      ∷ []

  -- their answer: a refusal, or the number of points
  unfoldable pub rows_answer : List ℕ
  rows_answer = answer_of place_rows (result_of (needed ∷ []))

module _ (G : Grid) (nodes fractions : List Float) where
  -- how many points there are
  abbrev pub needed : ℕ
  needed = length (points G nodes fractions)

  -- the places call (01): rows 1 to 10 and 18; then 15 to 17; else the number of points
  unfoldable pub places_answer : ℕ → List ℕ
  places_answer room = pick (accepts G) (rows_answer G.cells G.counts nodes fractions needed room) (grid_answer G)

  -- it refuses nothing: the answer is a result
  unfoldable pub placed : ℕ → Bool
  placed room = is_result (places_answer room)

  -- the lent area afterwards: the points at its front, and the rest as it was; all as it was where the call refuses
  unfoldable pub places_area : List Float → List Float
  places_area area = pick (placed (length area)) (sets area 0 (all_numbers (points G nodes fractions))) area
