-- The ring: accepted, with an even sum on every face, and without a shading. By computation.
use Prim.Native.Nat.{ℕ, ◌+◌, ◌%◌}
use mathlib.Core.Path.{◌≡◌, refl}
use mathlib.Core.Bool.{Bool, true}
use mathlib.Core.List.{[], ◌∷◌}
use lib.Dec.{eqb}
use borrow.Author.Tests.{eqb-true}
use Rattle.answer.specs.Answer.{result_of, refusal}
use Rattle.answer.specs.Rows.{or_refuse, answer_of}
use Rattle.counting.specs.Lists.{seek, total, over, pre}
use Rattle.counting.specs.Search.{first, last, some, every, count}
use Rattle.counting.specs.Reach.{reach}
use Rattle.counting.proofs.Search.{every_is}
use Rattle.slots.specs.Slots.{lo, hi, position, lower, upper, edge_between, slot_edge, contains}
use Rattle.grid.specs.Grid.{Grid, cell_count, count_of, edge_number, face_node, same_face, has_face, joins, is_edge, has_edge, start, starts_of}
use Rattle.grid.specs.Rows.{bad_length, bad_numbers, bad_start, bad_lists, bad_cell, same_cell, repeats, crowded, is_after, bad_edge, bad_count, unlisted, unused, linked, reached, split, too_many, rows, grid_answer}
use Rattle.grid.proofs.Accepts.{acceptance_yields}
use Rattle.shading.specs.Marks.{most_nodes, moved, united, marks_after, final_marks, agrees, unshaded}
use Rattle.shading.specs.Answer.{shading_rows, shading_answer}
use Rattle.shading.specs.examples.Examples.{ring, ring_counts}
use Rattle.shading.specs.claims.Claims.{RingLacks}
use Rattle.shading.proofs.Shadings.{lacking}

abbrev R : Grid
R = ring ring_counts

accepted : grid_answer R ≡ result_of (6 ∷ [])
unfolding seek first last some every count total over pre reach lo hi position contains face_node same_face has_face joins is_edge has_edge start starts_of
    bad_length bad_numbers bad_start bad_lists bad_cell same_cell repeats crowded is_after bad_edge bad_count unlisted unused linked reached split too_many rows or_refuse answer_of grid_answer
accepted = refl

-- the sum of the three counts of slot s of cell c is even
even_at : ℕ → ℕ → Bool
even_at c s =
    eqb
    ((count_of ring_counts (edge_number R c (slot_edge s 0)) + count_of ring_counts (edge_number R c (slot_edge s 1)) + count_of ring_counts (edge_number R c (slot_edge s 2)))
    % 2) 0

all_even : every (λ c. every (even_at c) 4) (cell_count R.cells) ≡ true
unfolding even_at every seek first lo hi position lower upper edge_between slot_edge joins is_edge edge_number
all_even = refl

lacks : unshaded R ≡ true
unfolding every over moved united marks_after final_marks agrees unshaded
lacks = refl

refused : shading_answer R most_nodes ≡ refusal 20 0
unfolding seek first last some every count total over pre reach lo hi position contains face_node same_face has_face joins is_edge has_edge start starts_of
    bad_length bad_numbers bad_start bad_lists bad_cell same_cell repeats crowded is_after bad_edge bad_count unlisted unused linked reached split too_many rows or_refuse answer_of grid_answer
    moved united marks_after final_marks agrees unshaded shading_rows shading_answer
refused = refl

pub ring_lacks : RingLacks
unfolding even_at
ring_lacks = record {
  accepted = accepted;
  even = λ c s h k. eqb-true _ 0 (every_is (even_at c) 4 (every_is (λ c. every (even_at c) 4) (cell_count R.cells) all_even c h) s k);
  refused = refused;
  lacks = lacking R (acceptance_yields R (6 ∷ []) accepted).sound lacks;
}
