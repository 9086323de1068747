use mathlib.Core.Path.{ap, ◌∙◌}
use native.Mathlib.Omega.{arith}
use Rattle.cell.specs.work.Fits.{next_after, area_after}
use Rattle.cell.specs.claims.Table.{table_cell}
use Rattle.cell.proofs.Fits.{next_all, area_all, put_none, put_more}
use Rattle.cell.proofs.Using.{used_sized, sized_none, sized_on, sized_room}
use Rattle.cell.proofs.drawing.put_in_all.Goals as goal

pub loop-k-init : goal.loop-k-init
loop-k-init c = ((omega arith, omega arith), sized_none _ _ _, put_none _ _ _ _)

pub put_in-i-requires : goal.put_in-i-requires
put_in-i-requires c = let A = c.args in
    let L = c.loop-k in
    let x = c.counted_at-x.ensures in
    sized_room L.invariant.1 A.tables.cells.now A.tables.counts.now A.tables.names.now A.tables.sides.now A.tables.starts.now L.k c.requires x.0 x.1 x.2

pub loop-k-preserved : goal.loop-k-preserved
loop-k-preserved c = let I = c.loop-k.invariant in
    let w = c.put_in-i.ensures in
    ((omega (arith, I.0), omega (arith, I.0)), sized_on I.1 (used_sized w.used), put_more _ _ _ _ I.0.0 I.2 c.counted_at-x.ensures.0 (w.value.0 ∙ next_all _ _ _) (w.value.1 ∙ area_all _ _ _))

pub shape_of-marks : goal.shape_of-marks
shape_of-marks c = c.loop-k.invariant.1.marks_same

pub shape_of-halves : goal.shape_of-halves
shape_of-halves c = c.loop-k.invariant.1.halves_same

pub shape_of-points : goal.shape_of-points
shape_of-points c = c.loop-k.invariant.1.points_same

pub shape_of-area : goal.shape_of-area
shape_of-area c = c.loop-k.invariant.2.long

pub returns : goal.returns
returns c = let A = c.args in
    let I = c.loop-k.invariant in
    let t = table_cell A.tables.cells.now A.tables.counts.now A.tables.names.now A.tables.sides.now A.tables.starts.now in
    record { value = (I.2.next ∙ ap (next_after t A.c A.area.now A.at) (omega (arith, I.0)), I.2.area ∙ ap (area_after t A.c A.area.now A.at) (omega (arith, I.0))); sized = I.1 }
