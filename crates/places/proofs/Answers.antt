-- The rows of the places call in turn.
use Prim.Native.Nat.{ℕ, ◌*◌, ◌≤◌, ◌<◌}
use mathlib.Core.Path.{◌≡◌, refl, ap}
use mathlib.Core.Bool.{Bool, true, false, not, ◌||◌}
use mathlib.Core.List.{List, [], ◌∷◌}
use native.Mathlib.Omega.{arith}
use lib.Dec.{eqb, ltb}
use lib.ListN.{length}
use lib.Ieee.{Float}
use borrow.Author.Tests.{ltb-false, eqb-true, not-false}
use Rattle.answer.specs.Answer.{result_of, is_result}
use Rattle.answer.specs.work.Faults.{numbered, since}
use Rattle.answer.proofs.Rows.{answer_some, clear_since, result_clear}
use Rattle.counting.specs.Pick.{pick}
use Rattle.counting.proofs.Bools.{clash, or_none}
use Rattle.grid.specs.Grid.{Grid, crossings}
use Rattle.grid.specs.Rows.{grid_answer, accepts}
use Rattle.grid.specs.claims.Accepted.{Sound}
use Rattle.grid.proofs.Claims.{accepted_is}
use Rattle.grid.proofs.Accepts.{acceptance_yields}
use Rattle.place.specs.Place.{coordinates}
use Rattle.places.specs.Rows.{node_end, bad_place_lists, bad_number, bad_fraction}
use Rattle.places.specs.Answer.{needed, place_rows, rows_answer, places_answer, placed}

-- what a result of rows 15 to 17 tells
pub record Fine (cells counts : List ℕ) (nodes fractions : List Float) (needed room : ℕ) : Type 0 where
  pub fractions_long : length fractions ≡ crossings counts
  pub area_long : coordinates * needed ≤ room
  pub numbers_fine : (i : ℕ) → i < coordinates * node_end cells → bad_number cells nodes i ≡ false
  pub fractions_fine : (g : ℕ) → g < crossings counts → bad_fraction counts fractions g ≡ false

module _ (cells counts : List ℕ) (nodes fractions : List Float) (needed room : ℕ) where
  lists_fine : bad_place_lists cells counts nodes fractions needed room ≡ false
      → (length fractions ≡ crossings counts) × (coordinates * needed ≤ room)
  unfolding bad_place_lists
  lists_fine e =
      let (_, q) = or_none (ltb (length nodes) (coordinates * node_end cells)) (not (eqb (length fractions) (crossings counts)) || ltb room (coordinates * needed)) e in
      let (r, s) = or_none (not (eqb (length fractions) (crossings counts))) (ltb room (coordinates * needed)) q in
      (eqb-true _ _ (not-false _ r), ltb-false _ _ s)

  rows_numbered : numbered (place_rows cells counts nodes fractions needed room) ≡ true
  unfolding place_rows numbered
  rows_numbered = refl

  pub rows_fine : (values : List ℕ) → rows_answer cells counts nodes fractions needed room ≡ result_of values → Fine cells counts nodes fractions needed room
  unfolding rows_answer place_rows since
  rows_fine values h =
      let rows = place_rows cells counts nodes fractions needed room in
      let a = result_clear rows (needed ∷ []) rows_numbered (ap is_result h) in
      let l = lists_fine (clear_since rows 15 a 0 (omega arith)) in
      record { fractions_long = l.0; area_long = l.1; numbers_fine = clear_since rows 16 a; fractions_fine = clear_since rows 17 a }

  -- the rows' answer has a first number
  pub rows_some : [] ≡ rows_answer cells counts nodes fractions needed room → ⊥
  unfolding rows_answer
  rows_some = answer_some (place_rows cells counts nodes fractions needed room) (needed ∷ [])

-- what a result of the places call tells
pub record Passed (G : Grid) (nodes fractions : List Float) (room : ℕ) : Type 1 where
  pub grid : Sound G
  pub rows : Fine G.cells G.counts nodes fractions (needed G nodes fractions) room

module _ (G : Grid) (nodes fractions : List Float) (room : ℕ) (values : List ℕ) where
  pub passed : places_answer G nodes fractions room ≡ result_of values → Passed G nodes fractions room
  unfolding places_answer
  passed e = go (accepts G) refl e
    where
      go : (b : Bool) → accepts G ≡ b
          → pick b (rows_answer G.cells G.counts nodes fractions (needed G nodes fractions) room) (grid_answer G) ≡ result_of values
          → Passed G nodes fractions room
      go false q h = absurd (clash {A = ⊥} (ap is_result h) q)
      go true q h = record {
        grid = (acceptance_yields G (crossings G.counts ∷ []) (accepted_is G q)).sound;
        rows = rows_fine G.cells G.counts nodes fractions (needed G nodes fractions) room values h;
      }

  pub placed_is : places_answer G nodes fractions room ≡ result_of values → placed G nodes fractions room ≡ true
  unfolding placed
  placed_is e = ap is_result e
