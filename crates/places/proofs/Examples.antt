-- The examples of the call, and those of nests, by computation.
use mathlib.Core.Path.{refl}
use lib.Ieee.{add, sub, mul, div, neg, lt, le, eq, of_int, of_bits}
use Rattle.counting.specs.Lists.{seek, total, over, kept, tally, gather, pre, it}
use Rattle.counting.specs.Search.{first, last, some, every, count}
use Rattle.counting.specs.Pack.{row, col}
use Rattle.counting.specs.Reach.{reach}
use Rattle.slots.specs.Slots.{lo, hi, position, lower, upper, edge_between, slot_edge, edge_rank, contains, first_slot, second_slot}
use Rattle.face.specs.Face as face
use Rattle.walk.specs.Walk.{orbit}
use Rattle.walk.specs.Step as step
use Rattle.walk.specs.Walk as walk
use Rattle.cell.specs.Cell as cell
use Rattle.cell.specs.Loop as loop
use Rattle.grid.specs.Grid.{face_node, same_face, has_face, face_name, joins, is_edge, has_edge, edge_number, start, starts_of, has_node}
use Rattle.answer.specs.Rows.{or_refuse, answer_of}
use Rattle.grid.specs.Rows.{bad_length, bad_numbers, bad_start, bad_lists, bad_cell, same_cell, repeats, crowded, is_after, bad_edge, bad_count, unlisted, unused, linked, reached, split, too_many, rows, grid_answer}
use Rattle.manifold.specs.Shape.{has_middle}
use Rattle.cell.specs.Triangles.{number_of}
use Rattle.cell.specs.Middles.{is_fan, loop_point}
use Rattle.face.specs.Face.{is_level}
use Rattle.cell.specs.Level.{is_level_cell}
use Rattle.cell.specs.Nodes.{joining, corner_from}
use Rattle.counting.specs.Gcd.{divides, gcd}
use Rattle.booking.specs.Figures.{are_spiral, are_split, figure_in, figure}
use Rattle.booking.specs.Booking.{median, corner_on, least_corner, left_between, larger, smaller, is_spiral, is_split}
use Rattle.split.specs.Labels.{remains_to, labelled, label, spoke}
use Rattle.split.specs.SubCell as sub-cell
use Rattle.split.specs.Standing as standing
use Rattle.places.specs.Nested as nested
use Rattle.mesh.specs.Mesh.{grid_cell}
use Rattle.place.specs.Place.{within, sum_to, middle}
use Rattle.places.specs.Numbers.{proper_fraction}
use Rattle.places.specs.Points as points
use Rattle.places.specs.Rows.{highest, bad_place_lists, bad_number, bad_fraction_at, bad_fraction}
use Rattle.places.specs.Answer.{place_rows, rows_answer, places_answer, placed, places_area}
use Rattle.places.specs.examples.Examples.{examples, ExamplesHold}
use Rattle.places.specs.examples.NestExamples as nests
use Rattle.places.specs.examples.NestExamples.{NestsHold}
use Rattle.places.specs.examples.SplitExamples as splits
use Rattle.places.specs.examples.SplitExamples.{SplitsPlaced}

pub examples_hold : ExamplesHold
unfolding add sub mul div neg lt le eq of_int of_bits
    seek first last some every count total over kept tally pre row col reach
    lo hi position lower upper edge_between slot_edge edge_rank contains first_slot second_slot
    face.other face.opposite face.half_above face.corner_count face.residual face.count_on face.others face.kth face.corner_count_at face.partner face.face_answer face.face_join
    it orbit step.face step.land step.step walk.status walk.turn walk.size walk.loop_at
    cell.ahead cell.base cell.holds cell.edge cell.index cell.answer_at cell.join_at cell.joined_to cell.mate cell.slot cell.step
    loop.loop_size loop.dart loop.loop_darts loop.folded loop.normal loop.in_grid loop.leasts
    face_node same_face has_face face_name joins is_edge has_edge edge_number start starts_of
    bad_length bad_numbers bad_start bad_lists bad_cell same_cell repeats crowded is_after bad_edge bad_count unlisted unused linked reached split too_many rows or_refuse answer_of grid_answer
    has_middle number_of is_fan loop_point is_level is_level_cell joining corner_from corner_on least_corner left_between
    divides gcd median larger smaller are_spiral are_split is_split standing.inner_places standing.drawn_middles
    nested.octagons nested.other_loops nested.is_nested nested.axis_edge nested.remaining nested.through nested.nest_number nested.nested_middle nested.placed_middle nested.placed_middles
    grid_cell
    sum_to middle gather within proper_fraction points.edge_of_crossing points.index_of_crossing points.crossing_place points.inner_points points.middles points.points
    has_node highest bad_place_lists bad_number bad_fraction_at bad_fraction place_rows rows_answer places_answer placed places_area examples
examples_hold = refl

pub nests_hold : NestsHold
unfolding seek first last some every count total over kept tally pre gather
    lo hi position lower upper edge_between slot_edge edge_rank contains first_slot second_slot
    face.other face.opposite face.half_above face.corner_count face.residual face.count_on face.others face.kth face.corner_count_at face.partner face.face_answer face.face_join
    it orbit step.face step.land step.step walk.status walk.turn walk.size walk.loop_at
    cell.ahead cell.base cell.holds cell.edge cell.index cell.answer_at cell.join_at cell.joined_to cell.mate cell.slot cell.step loop.loop_size loop.dart loop.leasts
    is_level is_level_cell joining corner_from corner_on least_corner left_between
    nested.octagons nested.other_loops nested.is_nested nested.axis_edge nested.remaining nested.through nested.nest_number nests.examples
nests_hold = refl

pub splits_placed : SplitsPlaced
unfolding add sub mul div neg lt le eq of_int of_bits
    seek first last some every count total over kept tally pre gather divides gcd
    lo hi position lower upper edge_between slot_edge edge_rank contains first_slot second_slot
    face.other face.opposite face.half_above face.corner_count face.residual face.count_on face.others face.kth face.corner_count_at face.partner face.face_answer face.face_join
    it orbit step.face step.land step.step walk.status walk.turn walk.size walk.loop_at
    cell.ahead cell.base cell.holds cell.edge cell.index cell.answer_at cell.join_at cell.joined_to cell.mate cell.slot cell.step
    loop.loop_size loop.dart loop.loop_darts loop.folded loop.normal loop.in_grid loop.leasts
    has_middle is_fan is_level is_level_cell joining corner_from median corner_on least_corner left_between larger smaller
    figure_in figure are_spiral are_split is_spiral is_split remains_to labelled label spoke
    sub-cell.rest_start sub-cell.arm_start sub-cell.inner_name sub-cell.sub_at sub-cell.sub
    nested.octagons nested.other_loops nested.is_nested nested.axis_edge nested.remaining nested.through nested.nest_number nested.nested_middle sum_to middle
    standing.new_place standing.sub_places standing.arm_place standing.arm_places standing.split_places standing.standing standing.fans_in standing.all_standing
    standing.inner_places standing.drawn_middles splits.examples
splits_placed = refl
