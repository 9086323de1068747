use native.Mathlib.Omega.{arith}
use Rattle.counting.specs.Lists.{over}
use Rattle.counting.proofs.Stored.{stored_none, stored_long}
use Rattle.cell.proofs.Going.{going_start, going_lent, going_more, going_looped, going_part, going_used}
use Rattle.cell.proofs.Fans.{fan_recorded, put_none, put_one, middle_room, middle_next, middles_all}
use Rattle.cell.proofs.part_middles.write_each.Goals as goal

pub routes_of-routes-requires : goal.routes_of-routes-requires
routes_of-routes-requires c = c.requires.room.near

pub nest_in-q-requires : goal.nest_in-q-requires
nest_in-q-requires c = c.requires.room.all

pub clear-requires : goal.clear-requires
clear-requires c = c.requires.room.long.marks_long

pub loop-p-init : goal.loop-p-init
unfolding over
loop-p-init c = let R = c.requires.room in
    (going_start _ (R.all, R.few) c.routes_of-routes.ensures R.long c.clear.ensures, stored_none _ _)

pub walk-w-requires : goal.walk-w-requires
walk-w-requires c = going_lent c.loop-p.invariant.0 (omega arith)

pub loop-p-preserved-then-fan_of-eq0 : goal.loop-p-preserved-then-fan_of-eq0
loop-p-preserved-then-fan_of-eq0 c = let A = c.args in
    let L = c.loop-p in
    let K = going_looped L.invariant.0 (omega arith) c.walk-w.ensures in
    let f = c.fan_of in (
      going_more L.invariant.0 (omega arith) c.walk-w.ensures,
      middle_next A.nodes.now A.c A.area.now A.at c.requires.middles_room L.i L.invariant.1 K c.nest_in-q.result c.nest_in-q.ensures
          (put_none A.c c.nest_in-q.result A.nodes.now _ _ _ L.area L.i f.result (fan_recorded K f.ensures) c.if-fan_of-eq0.true),
    )

pub slice_bounds-middle_in-end : goal.slice_bounds-middle_in-end
slice_bounds-middle_in-end c = (going_part c.loop-p.invariant.0 (omega arith) c.walk-w.ensures).0

pub slice_bounds-middle_in-end-in-loop-p : goal.slice_bounds-middle_in-end-in-loop-p
slice_bounds-middle_in-end-in-loop-p c = (going_part c.loop-p.invariant.0 (omega arith) c.walk-w.ensures).1

pub middle_in-v-requires : goal.middle_in-v-requires
middle_in-v-requires c = c.nest_in-q.ensures

pub overflow_add-i : goal.overflow_add-i
overflow_add-i c = let A = c.args in
    let L = c.loop-p in
    let K = going_looped L.invariant.0 (omega (arith, c.loop-p-test)) c.walk-w.ensures in
    omega (arith, middle_room A.nodes.now A.c A.area.now A.at c.requires.middles_room L.i L.invariant.1 K, stored_long L.invariant.1, c.well_formed)

pub loop-p-preserved : goal.loop-p-preserved
loop-p-preserved c = let A = c.args in
    let L = c.loop-p in
    let R = c.requires.middles_room in
    let K = going_looped L.invariant.0 (omega (arith, c.loop-p-test)) c.walk-w.ensures in
    let f = c.fan_of in (
      going_more L.invariant.0 (omega (arith, c.loop-p-test)) c.walk-w.ensures,
      middle_next A.nodes.now A.c A.area.now A.at R L.i L.invariant.1 K c.nest_in-q.result c.nest_in-q.ensures
          (put_one A.c c.nest_in-q.result A.nodes.now _ _ _ L.area L.i f.result (fan_recorded K f.ensures) c.if-fan_of-eq0.false
          (middle_room A.nodes.now A.c A.area.now A.at R L.i L.invariant.1 K) c.middle_in-v.ensures c.store.ensures),
    )

pub shape_of-marks : goal.shape_of-marks
shape_of-marks c = (going_used c.loop-p.invariant.0 c.requires.room.long.marks_long c.clear.ensures).marks_kept.long

pub shape_of-halves : goal.shape_of-halves
shape_of-halves c = (going_used c.loop-p.invariant.0 c.requires.room.long.marks_long c.clear.ensures).halves_kept.long

pub shape_of-points : goal.shape_of-points
shape_of-points c = (going_used c.loop-p.invariant.0 c.requires.room.long.marks_long c.clear.ensures).points_kept.long

pub shape_of-area : goal.shape_of-area
shape_of-area c = stored_long c.loop-p.invariant.1

pub returns : goal.returns
returns c = let G = c.loop-p.invariant.0 in
    let A = c.args in
    record { stored = middles_all A.nodes.now A.c A.area.now A.at c.requires.middles_room c.loop-p.invariant.1 (omega (arith, G.up, G.all)); used = going_used G c.requires.room.long.marks_long c.clear.ensures }
