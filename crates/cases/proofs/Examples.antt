-- The examples, by computation.
use mathlib.Core.Path.{refl}
use Rattle.counting.specs.Lists.{total, over, kept, seek, tally, pre}
use Rattle.counting.specs.Search.{first, last, every}
use Rattle.slots.specs.Slots as slots
use Rattle.face.specs.Face as face
use Rattle.walk.specs.Walk.{orbit}
use Rattle.walk.specs.Step as steps
use Rattle.walk.specs.Walk as walk
use Rattle.cell.specs.Cell.{ahead, base, holds, edge, index, answer_at, join_at, joined_to, mate, slot, step}
use Rattle.cell.specs.Loop.{loop_size, loop_darts, folded, normal, leasts}
use Rattle.cell.specs.Common.{is_common}
use Rattle.cell.specs.Triangles.{loop_count, many_from, triangle_count}
use Rattle.cases.specs.claims.Cases.{from_digits, entry_of}
use Rattle.cases.specs.Answer.{case_answer}
use Rattle.cases.specs.claims.Tally.{find_entry}
use Rattle.cases.specs.examples.Examples.{ExamplesHold, of, examples}

pub examples_hold : ExamplesHold
unfolding total over kept seek first last every tally pre
    slots.lo slots.hi slots.position slots.lower slots.upper slots.edge_between slots.slot_edge slots.edge_rank slots.contains slots.first_slot slots.second_slot
    face.other face.opposite face.half_above face.corner_count face.residual face.count_on face.others face.kth face.corner_count_at face.partner face.face_answer face.face_join
    orbit steps.face steps.land steps.step walk.status walk.turn walk.size walk.loop_at
    ahead base holds edge index answer_at join_at joined_to mate slot step loop_size loop_darts folded normal leasts
    is_common from_digits entry_of loop_count many_from triangle_count case_answer find_entry of examples
examples_hold = refl
