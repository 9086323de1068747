-- The ring premises by a test, and grids that meet them with a mesh that is not empty, one of them with a split cell: the theorem on rings says something.
use Prim.Native.Nat.{ℕ, ◌+◌, ◌%◌}
use mathlib.Core.Path.{◌≡◌, refl, ap}
use mathlib.Core.Logic.{⊎_elim}
use mathlib.Core.Bool.{Bool, true, not, ◌&&◌, ◌||◌}
use mathlib.Core.List.{[], ◌∷◌}
use lib.Dec.{eqb}
use lib.ListN.{length}
use borrow.Author.Tests.{eqb-true, not-true}
use Rattle.counting.specs.Lists.{seek, total, over, tally, gather, pre, it}
use Rattle.counting.specs.Search.{first, last, some, every, count}
use Rattle.counting.specs.Pack.{row, col}
use Rattle.counting.specs.Reach.{reach}
use Rattle.counting.specs.Gcd.{divides, gcd}
use Rattle.counting.proofs.Bools.{clash, and_left, and_right, or_cases}
use Rattle.counting.proofs.Search.{every_is}
use Rattle.answer.specs.Answer.{result_of}
use Rattle.slots.specs.Slots.{lo, hi, position, lower, upper, edge_between, slot_edge, edge_rank, contains, first_slot, second_slot}
use Rattle.face.specs.Face as face
use Rattle.face.specs.Face.{is_level}
use Rattle.walk.specs.Walk.{orbit}
use Rattle.walk.specs.Step as step
use Rattle.walk.specs.Walk as walk
use Rattle.cell.specs.Cell as cell
use Rattle.cell.specs.Loop as loop
use Rattle.grid.specs.Grid.{Grid, built, cell_count, count_of, outer, face_node, same_face, has_face, face_name, joins, is_edge, has_edge, edge_number, start, starts_of}
use Rattle.grid.specs.Rows.{bad_length, bad_numbers, bad_start, bad_lists, bad_cell, same_cell, repeats, crowded, is_after, bad_edge, bad_count, unlisted, unused, linked, reached, split, too_many, rows, grid_answer}
use Rattle.answer.specs.Rows.{or_refuse, answer_of}
use Rattle.cell.specs.Triangles as triangle
use Rattle.cell.specs.Nodes.{joining, corner_from}
use Rattle.cell.specs.Level.{is_level_cell}
use Rattle.booking.specs.Booking.{median, corner_on, least_corner, left_between, larger, smaller, is_spiral, is_split}
use Rattle.booking.specs.Figures.{are_spiral, are_split, figure_in, figure}
use Rattle.split.specs.Labels.{remains_to, labelled, label, spoke}
use Rattle.split.specs.SubCell.{rest_start, arm_start, inner_name, sub_at, sub}
use Rattle.split.specs.Parts.{parts, all_parts, own_corners, drawn_parts, drawn_triangles, splits_of}
use Rattle.mesh.specs.Mesh.{grid_cell, mesh_triangles, mesh_splits}
use Rattle.mesh.specs.Demand.{face_count, RingPremises}
use Rattle.mesh.specs.claims.Claims.{RingsHappen}
use Rattle.mesh.specs.examples.Examples.{three_cells, three_edges, three_counts, five_cells, five_counts}

module _ (G : Grid) where
  unfoldable pub zero_test : ℕ → Bool
  zero_test e = not (outer G e) || eqb (count_of G.counts e) 0

  unfoldable pub even_test : ℕ → ℕ → Bool
  even_test c s = eqb ((face_count G c s 0 + face_count G c s 1 + face_count G c s 2) % 2) 0

  unfoldable pub premise_test : Bool
  unfolding zero_test even_test
  premise_test = every zero_test (length G.counts) && every (λ c. every (even_test c) 4) (cell_count G.cells)

  pub tested : premise_test ≡ true → RingPremises G
  unfolding premise_test zero_test even_test
  tested e = record {
    outer_zero = λ f l o. ⊎_elim (λ (n : not (outer G f) ≡ true). clash o (not-true (outer G f) n)) (λ z. eqb-true (count_of G.counts f) 0 z)
        (or_cases (not (outer G f)) (eqb (count_of G.counts f) 0)
        (every_is zero_test (length G.counts) (and_left (every zero_test (length G.counts)) (every (λ c. every (even_test c) 4) (cell_count G.cells)) e) f l));
    even = λ c s lc ls. eqb-true ((face_count G c s 0 + face_count G c s 1 + face_count G c s 2) % 2) 0
        (every_is (even_test c) 4
        (every_is (λ c. every (even_test c) 4) (cell_count G.cells) (and_right (every zero_test (length G.counts)) (every (λ c. every (even_test c) 4) (cell_count G.cells)) e) c lc) s ls);
  }

-- three cells round an edge, and five where each face is in two: every outer edge has count zero, and each face an even sum
passes : (premise_test (built three_cells three_edges three_counts) ≡ true) × (premise_test (built five_cells three_edges five_counts) ≡ true)
unfolding premise_test zero_test even_test every some count seek first last total over pre lo hi position lower upper edge_between slot_edge contains
    outer face_node same_face has_face joins is_edge edge_number
passes = (refl, refl)

accepted : (grid_answer (built three_cells three_edges three_counts) ≡ result_of (2 ∷ [])) × (grid_answer (built five_cells three_edges five_counts) ≡ result_of (24 ∷ []))
unfolding every some count seek first last total over pre reach lo hi position lower upper edge_between slot_edge contains
    face_node same_face has_face joins is_edge has_edge edge_number start starts_of
    bad_length bad_numbers bad_start bad_lists bad_cell same_cell repeats crowded is_after bad_edge bad_count unlisted unused linked reached split too_many rows or_refuse answer_of grid_answer
accepted = (refl, refl)

-- the triangles and the splits of a grid
abbrev drawn_of : Grid → ℕ × ℕ
drawn_of G = (length (mesh_triangles G), mesh_splits G)

drawn : (drawn_of (built three_cells three_edges three_counts) ≡ (6, 0)) × (drawn_of (built five_cells three_edges five_counts) ≡ (100, 1))
unfolding every some count seek first last is_level total over tally gather pre row col divides gcd
    lo hi position lower upper edge_between slot_edge edge_rank contains first_slot second_slot
    face.other face.opposite face.half_above face.corner_count face.residual face.count_on face.others face.kth face.corner_count_at face.partner face.face_answer face.face_join
    it orbit step.face step.land step.step walk.status walk.turn walk.size walk.loop_at
    cell.ahead cell.base cell.holds cell.edge cell.index cell.answer_at cell.join_at cell.joined_to cell.mate cell.slot cell.step loop.loop_size loop.dart loop.loop_darts loop.folded loop.normal loop.in_grid
    face_node same_face face_name joins is_edge edge_number start
    triangle.number_of triangle.segment_of triangle.point triangle.segment triangle.triangle triangle.loop_triangles triangle.cell_triangles
    joining corner_from is_level_cell median corner_on least_corner left_between larger smaller is_spiral is_split are_spiral are_split figure_in figure
    remains_to labelled label spoke rest_start arm_start inner_name sub_at sub parts all_parts own_corners triangle.triangles_with triangle.asked_triangles drawn_parts drawn_triangles splits_of
    grid_cell mesh_triangles mesh_splits
drawn = (refl, refl)

pub rings_happen : RingsHappen
rings_happen = record {
  three = record {
    accepted = accepted.0;
    premises = tested (built three_cells three_edges three_counts) passes.0;
    drawn = ap (λ n. n.0) drawn.0;
    split = ap (λ n. n.1) drawn.0;
  };
  five = record {
    accepted = accepted.1;
    premises = tested (built five_cells three_edges five_counts) passes.1;
    drawn = ap (λ n. n.0) drawn.1;
    split = ap (λ n. n.1) drawn.1;
  };
}
