-- The examples, by computation.
use mathlib.Core.Path.{refl}
use Rattle.counting.specs.Lists.{seek, total, over, kept, tally, gather, pre, it}
use Rattle.counting.specs.Search.{first, last, some, every, count}
use Rattle.counting.specs.claims.Lists.{rise}
use Rattle.counting.specs.Pack.{row, col}
use Rattle.counting.specs.Reach.{reach}
use Rattle.counting.specs.Gcd.{divides, gcd}
use Rattle.counting.specs.Stored.{stored_in}
use Rattle.slots.specs.Slots as slots
use Rattle.face.specs.Face as face
use Rattle.face.specs.Face.{is_level}
use Rattle.walk.specs.Walk.{orbit}
use Rattle.walk.specs.Step as step
use Rattle.walk.specs.Walk as walk
use Rattle.cell.specs.Cell as cell
use Rattle.cell.specs.Loop as loop
use Rattle.cell.specs.Triangles as triangle
use Rattle.cell.specs.Words.{corner_words, words}
use Rattle.cell.specs.Nodes.{joining, corner_from}
use Rattle.cell.specs.Level.{is_level_cell}
use Rattle.booking.specs.Booking.{median, corner_on, least_corner, left_between, larger, smaller, is_spiral, is_split}
use Rattle.booking.specs.Figures.{are_spiral, are_split, figure_in, figure}
use Rattle.split.specs.Labels.{remains_to, labelled, label, spoke}
use Rattle.split.specs.SubCell.{rest_start, arm_start, inner_name, sub_at, sub}
use Rattle.split.specs.Parts.{parts, all_parts, own_corners, drawn_parts, drawn_triangles, splits_of}
use Rattle.split.specs.examples.Examples.{of, lone_cell, one_split}
use Rattle.grid.specs.Grid.{face_node, same_face, has_face, face_name, joins, is_edge, has_edge, edge_number, start, starts_of}
use Rattle.answer.specs.Rows as rows
use Rattle.grid.specs.Rows.{bad_length, bad_numbers, bad_start, bad_lists, bad_cell, same_cell, repeats, crowded, is_after, bad_edge, bad_count, unlisted, unused, linked, reached, split, too_many, rows, grid_answer}
use Rattle.mesh.specs.Mesh.{grid_cell, mesh_triangles, mesh_splits}
use Rattle.mesh.specs.Room.{room_answer}
use Rattle.layers.specs.Runs.{keep_inner, in_run, run_numbers, run_edges, run_counts, crossing_in_whole, face_in_whole, into_whole, run_triangles, run_renamed}
use Rattle.layers.specs.Cuts.{bad_cut, run_mesh, run_splits, joined_mesh, joined_splits}
use Rattle.layers.specs.Answer.{cuts_accepted, cuts_answer, run_answer, run_area, joined_answer, joined_area}
use Rattle.layers.specs.examples.Examples.{computed, examples, ExamplesHold, SplitRun}

pub examples_hold : ExamplesHold
unfolding seek first last some every count rise total over kept tally gather pre row col reach divides gcd stored_in
    slots.lo slots.hi slots.position slots.lower slots.upper slots.edge_between slots.slot_edge slots.edge_rank slots.contains slots.first_slot slots.second_slot
    face.other face.opposite face.half_above face.corner_count face.residual face.count_on face.others face.kth face.corner_count_at face.partner face.face_answer face.face_join is_level
    it orbit step.face step.land step.step walk.status walk.turn walk.size walk.loop_at
    cell.ahead cell.base cell.holds cell.edge cell.index cell.answer_at cell.join_at cell.joined_to cell.mate cell.slot cell.step
    loop.loop_size loop.dart loop.loop_darts loop.folded loop.normal loop.in_grid
    triangle.number_of triangle.segment_of triangle.point triangle.segment triangle.triangle triangle.loop_triangles triangle.cell_triangles
    corner_words words joining corner_from is_level_cell median corner_on least_corner left_between larger smaller is_spiral is_split are_spiral are_split figure_in figure drawn_parts drawn_triangles splits_of
    face_node same_face has_face face_name joins is_edge has_edge edge_number start starts_of
    bad_length bad_numbers bad_start bad_lists bad_cell same_cell repeats crowded is_after bad_edge bad_count unlisted unused linked reached split too_many rows rows.or_refuse rows.answer_of grid_answer
    grid_cell mesh_triangles mesh_splits room_answer keep_inner in_run run_numbers run_edges run_counts crossing_in_whole face_in_whole into_whole run_triangles run_renamed
    bad_cut run_mesh run_splits joined_mesh joined_splits cuts_accepted cuts_answer run_answer run_area joined_answer joined_area computed examples
examples_hold = refl

pub split_run : SplitRun
unfolding seek first last some every count rise total over kept tally gather pre row col reach divides gcd stored_in
    slots.lo slots.hi slots.position slots.lower slots.upper slots.edge_between slots.slot_edge slots.edge_rank slots.contains slots.first_slot slots.second_slot
    face.other face.opposite face.half_above face.corner_count face.residual face.count_on face.others face.kth face.corner_count_at face.partner face.face_answer face.face_join is_level
    it orbit step.face step.land step.step walk.status walk.turn walk.size walk.loop_at
    cell.ahead cell.base cell.holds cell.edge cell.index cell.answer_at cell.join_at cell.joined_to cell.mate cell.slot cell.step
    loop.loop_size loop.dart loop.loop_darts loop.folded loop.normal loop.in_grid
    triangle.number_of triangle.segment_of triangle.point triangle.segment triangle.triangle triangle.loop_triangles triangle.cell_triangles
    corner_words words joining corner_from is_level_cell median corner_on least_corner left_between larger smaller
    figure_in figure are_spiral are_split is_spiral is_split remains_to labelled label spoke
    rest_start arm_start inner_name sub_at sub parts all_parts own_corners triangle.triangles_with triangle.asked_triangles drawn_parts drawn_triangles splits_of
    face_node same_face has_face face_name joins is_edge has_edge edge_number start starts_of
    bad_length bad_numbers bad_start bad_lists bad_cell same_cell repeats crowded is_after bad_edge bad_count unlisted unused linked reached split too_many rows rows.or_refuse rows.answer_of grid_answer
    grid_cell mesh_triangles mesh_splits room_answer in_run run_numbers run_edges run_counts run_triangles
    bad_cut run_mesh run_splits cuts_accepted cuts_answer run_answer run_area of lone_cell one_split
split_run = record { answer = refl; area = refl }
