-- The examples, by computation.
use mathlib.Core.Path.{refl}
use Rattle.counting.specs.Lists.{total, over, kept, seek, tally, pre, it}
use Rattle.counting.specs.Search.{first, last}
use Rattle.slots.specs.Slots as slots
use Rattle.face.specs.Face as face
use Rattle.walk.specs.Walk.{orbit}
use Rattle.walk.specs.Step as steps
use Rattle.walk.specs.Walk as walk
use Rattle.cell.specs.Cell.{ahead, base, holds, edge, index, answer_at, join_at, joined_to, mate, slot, step}
use Rattle.cell.specs.Loop.{loop_size, dart, loop_darts, folded, normal, parity, node_with, type_by, type_of, in_grid, leasts, loop_told, loop_answer}
use Rattle.cell.specs.claims.Half.{edge_of}
use Rattle.cell.specs.work.Half.{half_of, twin, around}
use Rattle.cell.specs.work.Route.{half_corner, front, links}
use Rattle.cell.specs.work.Round.{crosses_in}
use Rattle.cell.specs.examples.Examples.{ExamplesHold, alone, among, examples, loops_of, points_of, all_points, computed, listed, parts_computed, parts_listed}

pub examples_hold : ExamplesHold
unfolding total over kept seek first last tally pre
    slots.lo slots.hi slots.position slots.lower slots.upper slots.edge_between slots.slot_edge slots.edge_rank slots.contains slots.first_slot slots.second_slot
    face.other face.opposite face.half_above face.corner_count face.residual face.count_on face.others face.kth face.corner_count_at face.partner face.face_answer face.face_join
    it orbit steps.face steps.land steps.step walk.status walk.turn walk.size walk.loop_at
    ahead base holds edge index answer_at join_at joined_to mate slot step loop_size dart loop_darts folded normal parity node_with type_by type_of in_grid leasts loop_told loop_answer
    edge_of half_of twin around half_corner front links crosses_in
    alone among examples loops_of points_of all_points computed listed parts_computed parts_listed
examples_hold = refl
