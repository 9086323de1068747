use mathlib.Core.Path.{ap, ◌∙◌}
use native.Mathlib.Omega.{arith}
use Rattle.counting.proofs.Stored.{summed_none, summed_more, summed_all}
use Rattle.cell.specs.claims.Middles.{fan_count}
use Rattle.cell.specs.work.Table.{table_fans}
use Rattle.cell.proofs.Using.{used_sized, sized_none, sized_on, sized_room}
use Rattle.cell.proofs.fanning.fans_in_all.Goals as goal

pub loop-c-init : goal.loop-c-init
loop-c-init c = (sized_none _ _ _, summed_none _ _)

pub fans_in-t-requires : goal.fans_in-t-requires
fans_in-t-requires c = let A = c.args in
    let L = c.loop-c in
    let x = c.counted_at-x.ensures in
    sized_room L.invariant.0 A.tables.cells.now A.tables.counts.now A.tables.names.now A.tables.sides.now A.tables.starts.now L.c c.requires x.0 x.1 x.2

pub overflow_add-t : goal.overflow_add-t
overflow_add-t c = omega (arith, c.fans_in-t.ensures.value.1, c.loop-c.invariant.1.few, c.drawn-n.ensures)

pub loop-c-preserved : goal.loop-c-preserved
loop-c-preserved c = let L = c.loop-c in
    let N = c.fans_in-t.ensures in
    (sized_on L.invariant.0 (used_sized N.used), summed_more _ _ L.invariant.1 _ (N.value.0 ∙ ap fan_count c.counted_at-x.ensures.0) N.value.1)

pub shape_of-marks : goal.shape_of-marks
shape_of-marks c = c.loop-c.invariant.0.marks_same

pub shape_of-halves : goal.shape_of-halves
shape_of-halves c = c.loop-c.invariant.0.halves_same

pub shape_of-points : goal.shape_of-points
shape_of-points c = c.loop-c.invariant.0.points_same

pub returns : goal.returns
unfolding table_fans
returns c = let S = c.loop-c.invariant.1 in record { value = (summed_all _ _ S (omega (arith, c.drawn-n.ensures)), omega (arith, S.few, c.drawn-n.ensures)); sized = c.loop-c.invariant.0 }
