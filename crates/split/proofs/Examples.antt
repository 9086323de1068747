-- The examples, by computation.
use mathlib.Core.Path.{◌≡◌, refl, ap₂}
use mathlib.Core.List.{[], ◌∷◌}
use Rattle.counting.specs.Lists.{seek, total, over, kept, tally, gather, pre, it}
use Rattle.counting.specs.Search.{first, last, every}
use Rattle.counting.specs.Gcd.{divides, gcd}
use Rattle.slots.specs.Slots as slots
use Rattle.face.specs.Face as face
use Rattle.face.specs.Face.{is_level}
use Rattle.walk.specs.Walk.{orbit}
use Rattle.walk.specs.Step as steps
use Rattle.walk.specs.Walk as walk
use Rattle.cell.specs.Cell.{ahead, base, holds, edge, index, answer_at, join_at, joined_to, mate, slot, step}
use Rattle.cell.specs.Loop.{loop_size, dart, loop_darts, folded, normal, in_grid, leasts}
use Rattle.cell.specs.Triangles.{triangle, number_of, segment_of, point, segment, loop_triangles, cell_triangles, many_from, triangle_count, asked_triangles, triangles_with}
use Rattle.cell.specs.Words.{corner_words, words}
use Rattle.cell.specs.Nodes.{joining, corner_from}
use Rattle.cell.specs.Level.{is_level_cell}
use Rattle.booking.specs.Booking.{median, corner_on, least_corner, left_between, larger, smaller, is_spiral, is_split}
use Rattle.booking.specs.Figures.{are_spiral, are_split, figure_in, figure}
use Rattle.split.specs.Labels.{remains_to, labelled, label, spoke}
use Rattle.split.specs.SubCell.{rest_start, arm_start, inner_name, sub_at, sub}
use Rattle.split.specs.claims.Counted.{sub_counts, loops_count, own_count, parts_count, drawn_count}
use Rattle.split.specs.Parts.{parts, all_parts, own_corners, drawn_parts, drawn_triangles, splits_of}
use Rattle.split.specs.examples.Examples.{lone_cell, of, computed, unsplit, unsplit_computed, counted, figures, examples, ExamplesHold, one_split, one_split_turned, two_splits, two_splits_turned, three_splits}

one_is : computed one_split ≡ one_split
unfolding seek first last every total over tally gather pre divides gcd
    slots.lo slots.hi slots.position slots.lower slots.upper slots.edge_between slots.slot_edge slots.edge_rank slots.contains slots.first_slot slots.second_slot
    face.other face.opposite face.half_above face.corner_count face.residual face.count_on face.others face.kth face.corner_count_at face.partner face.face_answer face.face_join is_level
    it orbit steps.face steps.land steps.step walk.status walk.turn walk.size walk.loop_at
    ahead base holds edge index answer_at join_at joined_to mate slot step loop_size dart loop_darts folded normal in_grid
    triangle number_of segment_of point segment loop_triangles cell_triangles corner_words words
    joining corner_from is_level_cell median corner_on least_corner left_between larger smaller
    figure_in figure are_spiral are_split is_spiral is_split remains_to labelled label spoke
    rest_start arm_start inner_name sub_at sub parts all_parts own_corners triangles_with asked_triangles drawn_parts drawn_triangles splits_of
    lone_cell of computed one_split
one_is = refl

one_turned_is : computed one_split_turned ≡ one_split_turned
unfolding seek first last every total over tally gather pre divides gcd
    slots.lo slots.hi slots.position slots.lower slots.upper slots.edge_between slots.slot_edge slots.edge_rank slots.contains slots.first_slot slots.second_slot
    face.other face.opposite face.half_above face.corner_count face.residual face.count_on face.others face.kth face.corner_count_at face.partner face.face_answer face.face_join is_level
    it orbit steps.face steps.land steps.step walk.status walk.turn walk.size walk.loop_at
    ahead base holds edge index answer_at join_at joined_to mate slot step loop_size dart loop_darts folded normal in_grid
    triangle number_of segment_of point segment loop_triangles cell_triangles corner_words words
    joining corner_from is_level_cell median corner_on least_corner left_between larger smaller
    figure_in figure are_spiral are_split is_spiral is_split remains_to labelled label spoke
    rest_start arm_start inner_name sub_at sub parts all_parts own_corners triangles_with asked_triangles drawn_parts drawn_triangles splits_of
    lone_cell of computed one_split_turned
one_turned_is = refl

two_is : computed two_splits ≡ two_splits
unfolding seek first last every total over tally gather pre divides gcd
    slots.lo slots.hi slots.position slots.lower slots.upper slots.edge_between slots.slot_edge slots.edge_rank slots.contains slots.first_slot slots.second_slot
    face.other face.opposite face.half_above face.corner_count face.residual face.count_on face.others face.kth face.corner_count_at face.partner face.face_answer face.face_join is_level
    it orbit steps.face steps.land steps.step walk.status walk.turn walk.size walk.loop_at
    ahead base holds edge index answer_at join_at joined_to mate slot step loop_size dart loop_darts folded normal in_grid
    triangle number_of segment_of point segment loop_triangles cell_triangles corner_words words
    joining corner_from is_level_cell median corner_on least_corner left_between larger smaller
    figure_in figure are_spiral are_split is_spiral is_split remains_to labelled label spoke
    rest_start arm_start inner_name sub_at sub parts all_parts own_corners triangles_with asked_triangles drawn_parts drawn_triangles splits_of
    lone_cell of computed two_splits
two_is = refl

two_turned_is : computed two_splits_turned ≡ two_splits_turned
unfolding seek first last every total over tally gather pre divides gcd
    slots.lo slots.hi slots.position slots.lower slots.upper slots.edge_between slots.slot_edge slots.edge_rank slots.contains slots.first_slot slots.second_slot
    face.other face.opposite face.half_above face.corner_count face.residual face.count_on face.others face.kth face.corner_count_at face.partner face.face_answer face.face_join is_level
    it orbit steps.face steps.land steps.step walk.status walk.turn walk.size walk.loop_at
    ahead base holds edge index answer_at join_at joined_to mate slot step loop_size dart loop_darts folded normal in_grid
    triangle number_of segment_of point segment loop_triangles cell_triangles corner_words words
    joining corner_from is_level_cell median corner_on least_corner left_between larger smaller
    figure_in figure are_spiral are_split is_spiral is_split remains_to labelled label spoke
    rest_start arm_start inner_name sub_at sub parts all_parts own_corners triangles_with asked_triangles drawn_parts drawn_triangles splits_of
    lone_cell of computed two_splits_turned
two_turned_is = refl

three_is : computed three_splits ≡ three_splits
unfolding seek first last every total over tally gather pre divides gcd
    slots.lo slots.hi slots.position slots.lower slots.upper slots.edge_between slots.slot_edge slots.edge_rank slots.contains slots.first_slot slots.second_slot
    face.other face.opposite face.half_above face.corner_count face.residual face.count_on face.others face.kth face.corner_count_at face.partner face.face_answer face.face_join is_level
    it orbit steps.face steps.land steps.step walk.status walk.turn walk.size walk.loop_at
    ahead base holds edge index answer_at join_at joined_to mate slot step loop_size dart loop_darts folded normal in_grid
    triangle number_of segment_of point segment loop_triangles cell_triangles corner_words words
    joining corner_from is_level_cell median corner_on least_corner left_between larger smaller
    figure_in figure are_spiral are_split is_spiral is_split remains_to labelled label spoke
    rest_start arm_start inner_name sub_at sub parts all_parts own_corners triangles_with asked_triangles drawn_parts drawn_triangles splits_of
    lone_cell of computed three_splits
three_is = refl

not_split : unsplit_computed ≡ unsplit
unfolding seek first last every total over tally gather pre divides gcd
    slots.lo slots.hi slots.position slots.lower slots.upper slots.edge_between slots.slot_edge slots.edge_rank slots.contains slots.first_slot slots.second_slot
    face.other face.opposite face.half_above face.corner_count face.residual face.count_on face.others face.kth face.corner_count_at face.partner face.face_answer face.face_join is_level
    it orbit steps.face steps.land steps.step walk.status walk.turn walk.size walk.loop_at
    ahead base holds edge index answer_at join_at joined_to mate slot step loop_size dart loop_darts folded normal in_grid
    triangle number_of segment_of point segment loop_triangles cell_triangles corner_words words
    joining corner_from is_level_cell median corner_on least_corner left_between larger smaller
    figure_in figure are_spiral are_split is_spiral is_split remains_to labelled label spoke
    rest_start arm_start inner_name sub_at sub parts all_parts own_corners triangles_with asked_triangles drawn_parts drawn_triangles splits_of
    lone_cell unsplit unsplit_computed
not_split = refl

by_counts : counted ≡ 52 ∷ 56 ∷ 8 ∷ []
unfolding seek first last every total over kept tally pre divides gcd
    slots.lo slots.hi slots.position slots.lower slots.upper slots.edge_between slots.slot_edge slots.edge_rank slots.contains slots.first_slot slots.second_slot
    face.other face.opposite face.half_above face.corner_count face.residual face.count_on face.others face.kth face.corner_count_at face.partner face.face_answer face.face_join is_level
    it orbit steps.face steps.land steps.step walk.status walk.turn walk.size walk.loop_at
    ahead base holds edge index answer_at join_at joined_to mate slot step loop_size dart loop_darts folded normal leasts many_from triangle_count
    joining corner_from is_level_cell median corner_on least_corner left_between larger smaller are_spiral are_split is_spiral is_split remains_to labelled label spoke
    sub_counts loops_count own_count parts_count drawn_count counted
by_counts = refl

by_numbers : figures ≡ 2045 ∷ 8384500 ∷ 16793556 ∷ 3 ∷ 60 ∷ 196 ∷ []
unfolding figure_in figure figures
by_numbers = refl

pub examples_hold : ExamplesHold
unfolding examples
examples_hold = record {
  split = ap₂ ◌∷◌ one_is (ap₂ ◌∷◌ one_turned_is (ap₂ ◌∷◌ two_is (ap₂ ◌∷◌ two_turned_is (ap₂ ◌∷◌ three_is refl))));
  not_split = not_split;
  by_counts = by_counts;
  by_numbers = by_numbers;
}
