-- The exact case happens: one cell, its first edge crossed half way.
use Prim.Native.Nat.{ℕ, ◌<◌}
use mathlib.Core.Path.{◌≡◌, refl}
use mathlib.Core.Bool.{true, false}
use mathlib.Core.List.{List, [], ◌∷◌}
use native.Mathlib.Omega.{arith}
use lib.ListN.{length}
use lib.IntN.{ℤ, pos, negsuc}
use lib.Ieee.{Float, nan, fin}
use Rattle.counting.proofs.Below.{below_three}
use Rattle.answer.specs.Answer.{result_of}
use lib.Ieee.{add, sub, mul, div, neg, lt, le, eq, of_int, of_bits}
use Rattle.counting.specs.Lists.{seek, total, over, kept, tally, gather, pre, it}
use Rattle.counting.specs.Search.{first, last, some, every, count}
use Rattle.counting.specs.Pack.{row, col}
use Rattle.counting.specs.Reach.{reach}
use Rattle.slots.specs.Slots.{lo, hi, position, lower, upper, edge_between, slot_edge, edge_rank, contains, first_slot, second_slot}
use Rattle.face.specs.Face as face
use Rattle.walk.specs.Walk.{orbit}
use Rattle.walk.specs.Step as step
use Rattle.walk.specs.Walk as walk
use Rattle.cell.specs.Cell as cell
use Rattle.cell.specs.Loop as loop
use Rattle.grid.specs.Grid.{built, crossings, face_node, same_face, has_face, face_name, joins, is_edge, has_edge, edge_number, start, starts_of, has_node}
use Rattle.answer.specs.Rows.{or_refuse, answer_of}
use Rattle.grid.specs.Rows.{bad_length, bad_numbers, bad_start, bad_lists, bad_cell, same_cell, repeats, crowded, is_after, bad_edge, bad_count, unlisted, unused, linked, reached, split, too_many, rows, grid_answer}
use Rattle.manifold.specs.Shape.{has_middle}
use Rattle.cell.specs.Triangles.{number_of}
use Rattle.cell.specs.Middles.{is_fan, loop_point}
use Rattle.face.specs.Face.{is_level}
use Rattle.cell.specs.Level.{is_level_cell}
use Rattle.cell.specs.Nodes.{joining, corner_from}
use Rattle.counting.specs.Gcd.{divides, gcd}
use Rattle.booking.specs.Figures.{are_spiral, are_split}
use Rattle.booking.specs.Booking.{median, corner_on, least_corner, left_between, larger, smaller, is_split}
use Rattle.split.specs.Standing as standing
use Rattle.places.specs.Nested as nested
use Rattle.mesh.specs.Mesh.{grid_cell}
use Rattle.place.specs.Place.{within, sum_to, middle}
use Rattle.places.specs.Numbers.{proper_fraction}
use Rattle.places.specs.Points as points
use Rattle.places.specs.Rows.{highest, bad_place_lists, bad_number, bad_fraction_at, bad_fraction}
use Rattle.places.specs.Answer.{place_rows, rows_answer, places_answer, placed, places_area}
use Rattle.places.specs.Exact.{WholeAt}
use Rattle.places.specs.claims.Claims.{ExactHappens}

the_cells : List ℕ
the_cells = 0 ∷ 1 ∷ 2 ∷ 3 ∷ []

the_edges : List ℕ
the_edges = 0 ∷ 1 ∷ 0 ∷ 2 ∷ 0 ∷ 3 ∷ 1 ∷ 2 ∷ 1 ∷ 3 ∷ 2 ∷ 3 ∷ []

the_counts : List ℕ
the_counts = 1 ∷ 0 ∷ 0 ∷ 0 ∷ 0 ∷ 0 ∷ []

-- node 0 at 3, 0, 0 and node 1 at 1000000, -7, 0
the_nodes : List Float
the_nodes =
    fin false 3 (pos 0) ∷ fin false 0 (pos 0) ∷ fin true 0 (pos 0) ∷ fin false 15625 (pos 6) ∷ fin true 7 (pos 0) ∷ fin false 0 (pos 0)
    ∷ fin false 0 (pos 0) ∷ fin false 0 (pos 0) ∷ fin false 0 (pos 0) ∷ fin false 0 (pos 0) ∷ fin false 0 (pos 0) ∷ fin false 0 (pos 0) ∷ []

the_fractions : List Float
the_fractions = fin false 1 (negsuc 0) ∷ []

the_area : List Float
the_area = nan ∷ nan ∷ nan ∷ []

answered : places_answer (built the_cells the_edges the_counts) the_nodes the_fractions (length the_area) ≡ result_of (1 ∷ [])
unfolding add sub mul div neg lt le eq of_int of_bits
    seek first last some every count total over kept tally pre row col reach
    lo hi position lower upper edge_between slot_edge edge_rank contains first_slot second_slot
    face.other face.opposite face.half_above face.corner_count face.residual face.count_on face.others face.kth face.corner_count_at face.partner face.face_answer face.face_join
    it orbit step.face step.land step.step walk.status walk.turn walk.size walk.loop_at
    cell.ahead cell.base cell.holds cell.edge cell.index cell.answer_at cell.join_at cell.joined_to cell.mate cell.slot cell.step
    loop.loop_size loop.dart loop.loop_darts loop.folded loop.normal loop.in_grid loop.leasts
    face_node same_face has_face face_name joins is_edge has_edge edge_number start starts_of
    bad_length bad_numbers bad_start bad_lists bad_cell same_cell repeats crowded is_after bad_edge bad_count unlisted unused linked reached split too_many rows or_refuse answer_of grid_answer
    has_middle number_of is_fan loop_point is_level is_level_cell joining corner_from corner_on least_corner left_between
    divides gcd median larger smaller are_spiral are_split is_split standing.inner_places standing.drawn_middles
    nested.octagons nested.other_loops nested.is_nested nested.axis_edge nested.remaining nested.through nested.nest_number nested.nested_middle nested.placed_middle nested.placed_middles
    grid_cell
    sum_to middle gather within proper_fraction points.edge_of_crossing points.index_of_crossing points.crossing_place points.inner_points points.middles points.points
    has_node highest bad_place_lists bad_number bad_fraction_at bad_fraction place_rows rows_answer places_answer placed places_area
    the_cells the_edges the_counts the_nodes the_fractions the_area
answered = refl

one_crossing : crossings the_counts ≡ 1
unfolding start pre total the_counts
one_crossing = refl

module _ where
  at_first : (t : ℕ) → t < 3 → (u : ℤ) × (v : ℤ) × (k : ℤ) × WholeAt the_edges the_counts the_nodes the_fractions 0 t u v k
  unfolding seek first total pre row points.edge_of_crossing the_edges the_counts the_nodes the_fractions
  at_first =
      below_three (λ t. (u : ℤ) × (v : ℤ) × (k : ℤ) × WholeAt the_edges the_counts the_nodes the_fractions 0 t u v k) (
        pos 3,
        pos 1000000,
        pos 512,
        record {
          lower = record { sign = false; size = 3; has = (refl, refl); is = refl };
          upper = record { sign = false; size = 1000000; has = (refl, refl); is = refl };
          part = record { sign = false; size = 512; has = (refl, refl); is = refl };
        },
      ) (
        pos 0,
        negsuc 6,
        pos 512,
        record {
          lower = record { sign = false; size = 0; has = (refl, refl); is = refl };
          upper = record { sign = true; size = 7; has = (refl, refl); is = refl };
          part = record { sign = false; size = 512; has = (refl, refl); is = refl };
        },
      ) (
        pos 0,
        pos 0,
        pos 512,
        record {
          lower = record { sign = true; size = 0; has = (refl, refl); is = refl };
          upper = record { sign = false; size = 0; has = (refl, refl); is = refl };
          part = record { sign = false; size = 512; has = (refl, refl); is = refl };
        },
      )

pub happens : ExactHappens
happens = record {
  grid = built the_cells the_edges the_counts;
  nodes = the_nodes;
  fractions = the_fractions;
  area = the_area;
  placed = (1 ∷ [], answered);
  some = omega (arith, one_crossing);
  whole = λ g t h k. (let z : g ≡ 0 = omega (arith, one_crossing) in rw z (at_first t k));
}
