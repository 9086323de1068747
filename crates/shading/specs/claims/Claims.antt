-- What is proved of the shading call, besides its contract, in the words of 02.
use Rattle.std.specs.Prelude.{ℕ, ◌+◌, ◌%◌, ◌<◌, ◌≡◌, ◌≢◌, List, [], ◌∷◌, length, Ok, Err}
use Rattle.answer.specs.Answer.{result_of, refusal}
use Rattle.answer.specs.Refusal.{refusal_numbers}
use Rattle.answer.specs.declared.Refusal.{Refusal}
use Rattle.answer.specs.declared.Row.TheVariants as row
use Rattle.slots.specs.Slots.{slot_edge}
use Rattle.grid.specs.Grid.{Grid, cell_count, edge_number, count_of}
use Rattle.grid.specs.Rows.{grid_answer}
use Rattle.grid.specs.claims.Accepted.{Accepted}
use Rattle.shading.specs.Marks.{most_nodes}
use Rattle.shading.specs.claims.Shading.{IsShading, NoShading, IsShadingArea}
use Rattle.shading.specs.Answer.{Shaded, shading_numbers, shading_answer}
use Rattle.shading.specs.Done.{Done}
use Rattle.shading.specs.examples.Examples.{ring, ring_counts}

-- what the call's answer says, and the lent area after it
pub record Says (G : Grid) (before after : List ℕ) (answer : Shaded) : Type 1 where
  -- the rows of the grid come first: a grid that the check refuses is refused so
  pub unsound : (r : Refusal) → refusal_numbers r ≡ grid_answer G → answer ≡ Err r
  -- 19 for an area of another length, whether there is a shading or not
  pub other-length : Accepted G → length before ≢ most_nodes → answer ≡ Err (record { row = row.ShadingArea; place = 0 })
  -- 20 where there is no shading, and only there
  pub refused : Accepted G → length before ≡ most_nodes → NoShading G → answer ≡ Err (record { row = row.NoShading; place = 0 })
  pub none : (place : ℕ) → answer ≡ Err (record { row = row.NoShading; place = place }) → NoShading G
  -- where there is one, the area is written
  pub shaded : Accepted G → length before ≡ most_nodes → (side : ℕ → ℕ) → IsShading G side → answer ≡ Ok tt
  -- it then is a shading as 02 asks, and no other area is one
  pub written : answer ≡ Ok tt → IsShadingArea G after
  pub only : answer ≡ Ok tt → (area : List ℕ) → IsShadingArea G area → area ≡ after
  -- a refusal keeps every byte
  pub kept : (r : Refusal) → answer ≡ Err r → after ≡ before

-- of every answer and area that the contract allows
abbrev pub CallSays : Type 1
CallSays = (G : Grid) (before after : List ℕ) (answer : Shaded) → Done G before after (shading_numbers answer) → Says G before after answer

-- the numbers tell the answer: no two values are read as the same answer of the call
abbrev pub ShadingTold : Type 0
ShadingTold = (G : Grid) (room : ℕ) (r s : Shaded) → shading_numbers r ≡ shading_answer G room → shading_numbers s ≡ shading_answer G room → r ≡ s

-- the ring is accepted and every face of it has an even sum, and yet 20 is given
pub record RingLacks : Type 0 where
  pub accepted : grid_answer (ring ring_counts) ≡ result_of (6 ∷ [])
  pub even : (c s : ℕ) → c < cell_count (ring ring_counts).cells → s < 4
      → (count_of ring_counts (edge_number (ring ring_counts) c (slot_edge s 0)) + count_of ring_counts (edge_number (ring ring_counts) c (slot_edge s 1))
      + count_of ring_counts (edge_number (ring ring_counts) c (slot_edge s 2))) % 2 ≡ 0
  pub refused : shading_answer (ring ring_counts) most_nodes ≡ refusal 20 0
  pub lacks : NoShading (ring ring_counts)
