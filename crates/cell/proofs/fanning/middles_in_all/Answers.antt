use mathlib.Core.Path.{ap, ◌∙◌}
use native.Mathlib.Omega.{arith}
use Rattle.cell.specs.work.Table.{middles_written}
use Rattle.cell.proofs.Fans.{written_none, written_more, written_long}
use Rattle.cell.proofs.Using.{used_sized, sized_none, sized_on, sized_room}
use Rattle.cell.proofs.fanning.middles_in_all.Goals as goal

pub loop-k-init : goal.loop-k-init
loop-k-init c = let A = c.args in
    ((omega arith, omega arith), sized_none _ _ _, written_none A.tables.cells.now A.tables.counts.now A.tables.names.now A.tables.sides.now A.tables.starts.now A.nodes.now A.c A.area.now A.at)

pub middles_in-i-requires : goal.middles_in-i-requires
middles_in-i-requires c = let A = c.args in
    let L = c.loop-k in
    let x = c.counted_at-x.ensures in
    sized_room L.invariant.1 A.tables.cells.now A.tables.counts.now A.tables.names.now A.tables.sides.now A.tables.starts.now L.k c.requires x.0 x.1 x.2

pub loop-k-preserved : goal.loop-k-preserved
loop-k-preserved c = let A = c.args in
    let L = c.loop-k in
    let w = c.middles_in-i.ensures in
    ((omega (arith, L.invariant.0), omega (arith, L.invariant.0)), sized_on L.invariant.1 (used_sized w.used), written_more A.tables.cells.now A.tables.counts.now A.tables.names.now A.tables.sides.now A.tables.starts.now A.nodes.now A.c A.area.now A.at L.k L.invariant.2 L.invariant.0.0 c.counted_at-x.ensures.0 w.value)

pub shape_of-marks : goal.shape_of-marks
shape_of-marks c = c.loop-k.invariant.1.marks_same

pub shape_of-halves : goal.shape_of-halves
shape_of-halves c = c.loop-k.invariant.1.halves_same

pub shape_of-points : goal.shape_of-points
shape_of-points c = c.loop-k.invariant.1.points_same

pub shape_of-area : goal.shape_of-area
shape_of-area c = let A = c.args in
    written_long A.tables.cells.now A.tables.counts.now A.tables.names.now A.tables.sides.now A.tables.starts.now A.nodes.now A.c A.area.now A.at c.loop-k.k c.loop-k.invariant.2

pub returns : goal.returns
returns c = let A = c.args in record { result_after = c.loop-k.invariant.2 ∙ ap (middles_written A.tables.cells.now A.tables.counts.now A.tables.names.now A.tables.sides.now A.tables.starts.now A.nodes.now A.c A.area.now A.at) (omega (arith, c.loop-k.invariant.0)); sized = c.loop-k.invariant.1 }
