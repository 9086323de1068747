-- The numbers tell the answer.
use Prim.Native.Nat.{ℕ}
use mathlib.Core.Path.{◌≡◌, sym, ◌∙◌}
use mathlib.Core.List.{List, [], ◌∷◌}
use lib.Ieee.{Float}
use Rattle.answer.proofs.Answer.{pick_some}
use Rattle.answer.proofs.Numbers.{answer_tells}
use Rattle.grid.specs.Grid.{Grid}
use Rattle.grid.specs.Rows.{grid_answer, accepts}
use Rattle.grid.proofs.Claims.{never_empty}
use Rattle.places.specs.Answer.{needed, rows_answer, places_answer}
use Rattle.places.specs.claims.Claims.{PlacesTold}
use Rattle.places.proofs.Answers.{rows_some}

module _ (G : Grid) (nodes fractions : List Float) (room : ℕ) where
  -- there is always an answer
  pub places_some : [] ≡ places_answer G nodes fractions room → ⊥
  unfolding places_answer
  places_some =
      pick_some (accepts G) (rows_answer G.cells G.counts nodes fractions (needed G nodes fractions) room) (grid_answer G)
      (rows_some G.cells G.counts nodes fractions (needed G nodes fractions) room) (never_empty G)

pub places_told : PlacesTold
places_told G nodes fractions room r s a b = answer_tells (λ n. n ∷ []) (λ n m e. cc) r s (a ∙ sym b)
