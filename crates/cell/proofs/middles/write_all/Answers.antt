use native.Mathlib.Omega.{arith}
use Rattle.counting.specs.Lists.{over}
use Rattle.counting.proofs.Stored.{stored_none, stored_long}
use Rattle.cell.proofs.Going.{going_start, going_lent, going_more, going_looped, going_part, going_used}
use Rattle.cell.proofs.Fans.{middle_room, middle_next, middles_all}
use Rattle.cell.proofs.middles.write_all.Goals as goal

pub routes_of-routes-requires : goal.routes_of-routes-requires
routes_of-routes-requires c = c.requires.room.near

pub nest_in-q-requires : goal.nest_in-q-requires
nest_in-q-requires c = c.requires.room.all

pub clear-requires : goal.clear-requires
clear-requires c = c.requires.room.long.marks_long

pub loop-p-init : goal.loop-p-init
unfolding over
loop-p-init c = (going_start _ (c.requires.room.all, c.requires.room.few) c.routes_of-routes.ensures c.requires.room.long c.clear.ensures, stored_none _ _)

pub walk-w-requires : goal.walk-w-requires
walk-w-requires c = going_lent c.loop-p.invariant.0 (omega arith)

pub slice_bounds-put_middle-end : goal.slice_bounds-put_middle-end
slice_bounds-put_middle-end c = (going_part c.loop-p.invariant.0 (omega arith) c.walk-w.ensures).0

pub slice_bounds-put_middle-end-in-loop-p : goal.slice_bounds-put_middle-end-in-loop-p
slice_bounds-put_middle-end-in-loop-p c = (going_part c.loop-p.invariant.0 (omega arith) c.walk-w.ensures).1

pub put_middle-i-requires : goal.put_middle-i-requires
put_middle-i-requires c = let A = c.args in
    let L = c.loop-p in
    record { nest = c.nest_in-q.ensures; room = middle_room A.nodes.now A.c A.area.now A.at c.requires.middles_room L.i L.invariant.1 (going_looped L.invariant.0 (omega arith) c.walk-w.ensures) }

pub loop-p-preserved : goal.loop-p-preserved
loop-p-preserved c = let A = c.args in
    let L = c.loop-p in (
      going_more L.invariant.0 (omega arith) c.walk-w.ensures,
      middle_next A.nodes.now A.c A.area.now A.at c.requires.middles_room L.i L.invariant.1 (going_looped L.invariant.0 (omega arith) c.walk-w.ensures) c.nest_in-q.result c.nest_in-q.ensures c.put_middle-i.ensures,
    )

pub shape_of-marks : goal.shape_of-marks
shape_of-marks c = (going_used c.loop-p.invariant.0 c.requires.room.long.marks_long c.clear.ensures).marks_kept.long

pub shape_of-halves : goal.shape_of-halves
shape_of-halves c = (going_used c.loop-p.invariant.0 c.requires.room.long.marks_long c.clear.ensures).halves_kept.long

pub shape_of-points : goal.shape_of-points
shape_of-points c = (going_used c.loop-p.invariant.0 c.requires.room.long.marks_long c.clear.ensures).points_kept.long

pub shape_of-area : goal.shape_of-area
shape_of-area c = stored_long c.loop-p.invariant.1

pub returns : goal.returns
returns c = let G = c.loop-p.invariant.0 in
    let A = c.args in
    record { stored = middles_all A.nodes.now A.c A.area.now A.at c.requires.middles_room c.loop-p.invariant.1 (omega (arith, G.up, G.all)); used = going_used G c.requires.room.long.marks_long c.clear.ensures }
