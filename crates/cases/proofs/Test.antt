-- The one test over the table, by computation.
use mathlib.Core.Path.{◌≡◌, refl}
use Rattle.counting.specs.Lists.{total, over, seek, tally, pre}
use Rattle.counting.specs.Search.{first, last}
use Rattle.slots.specs.Slots as slots
use Rattle.face.specs.Face as face
use Rattle.walk.specs.Walk.{orbit}
use Rattle.walk.specs.Step as steps
use Rattle.walk.specs.Walk as walk
use Rattle.cell.specs.Cell.{ahead, base, holds, edge}
use Rattle.cases.specs.claims.Cases.{entries}
use Rattle.cases.specs.claims.Table.{table_rows, table}
use Rattle.cases.proofs.Quick as quick

-- what is worked out for the entries, one after the other, is the table
pub test : over quick.entry_at entries 0 ≡ table
unfolding total over seek first last tally pre
    slots.lo slots.hi slots.position slots.lower slots.upper slots.edge_between slots.slot_edge slots.edge_rank slots.contains slots.first_slot slots.second_slot
    face.other face.opposite face.half_above face.corner_count face.residual face.count_on face.others face.kth face.corner_count_at face.partner face.face_answer face.face_join
    orbit steps.face steps.land steps.step walk.status walk.turn walk.size ahead base holds edge
    quick.join_on quick.joined_on quick.mate_on quick.step_on quick.sizes_on quick.normal_on quick.counts_on quick.both_on quick.both_by quick.both quick.digit quick.both_for quick.entry_at table_rows table
test = refl
