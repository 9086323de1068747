use native.Mathlib.Omega.{arith}
use mathlib.Core.Path.{◌∙◌}
use Rattle.cell.proofs.Going.{looped_halves, looped_points, going_start, going_in, going_lent, going_more, going_looped, going_part, going_used}
use Rattle.cell.proofs.Cells.{seeking_none, loop_off, loop_skip, loop_pass, loop_here}
use Rattle.cell.proofs.loop_in.Goals as goal

pub routes_of-routes-requires : goal.routes_of-routes-requires
routes_of-routes-requires c = c.requires.near

pub clear-requires : goal.clear-requires
clear-requires c = c.requires.long.marks_long

pub loop-p-init : goal.loop-p-init
loop-p-init c = let R = c.requires in (going_start _ (R.all, R.few) c.routes_of-routes.ensures R.long c.clear.ensures, seeking_none _ _)

pub walk-t-requires : goal.walk-t-requires
walk-t-requires c = going_lent c.loop-p.invariant.0 (omega arith)

pub loop-p-preserved-then-m-eq0 : goal.loop-p-preserved-then-m-eq0
loop-p-preserved-then-m-eq0 c = let L = c.loop-p in
    let W = c.walk-t.ensures in
    (going_more L.invariant.0 (omega arith) W, loop_skip c.args.c L.invariant.1 (omega (arith, W.size)))

pub slice_bounds-answer_of-end : goal.slice_bounds-answer_of-end
slice_bounds-answer_of-end c = (going_part c.loop-p.invariant.0 (omega arith) c.walk-t.ensures).0

pub slice_bounds-answer_of-end-then-left-eq0 : goal.slice_bounds-answer_of-end-then-left-eq0
slice_bounds-answer_of-end-then-left-eq0 c = (going_part c.loop-p.invariant.0 (omega arith) c.walk-t.ensures).1

pub answer_of-requires : goal.answer_of-requires
answer_of-requires c = let L = going_looped c.loop-p.invariant.0 (omega arith) c.walk-t.ensures in (omega (arith, looped_points L), omega (arith, looped_halves L, L.few))

pub shape_of-marks-then-left-eq0 : goal.shape_of-marks-then-left-eq0
shape_of-marks-then-left-eq0 c = (going_used (going_more c.loop-p.invariant.0 (omega arith) c.walk-t.ensures) c.requires.long.marks_long c.clear.ensures).marks_kept.long

pub shape_of-halves-then-left-eq0 : goal.shape_of-halves-then-left-eq0
shape_of-halves-then-left-eq0 c = (going_used (going_more c.loop-p.invariant.0 (omega arith) c.walk-t.ensures) c.requires.long.marks_long c.clear.ensures).halves_kept.long

pub shape_of-points-then-left-eq0 : goal.shape_of-points-then-left-eq0
shape_of-points-then-left-eq0 c = (going_used (going_more c.loop-p.invariant.0 (omega arith) c.walk-t.ensures) c.requires.long.marks_long c.clear.ensures).points_kept.long

pub returns-then-left-eq0 : goal.returns-then-left-eq0
returns-then-left-eq0 c = let L = c.loop-p in
    let W = c.walk-t.ensures in
    record { result_value = c.answer_of.ensures ∙ loop_here _ L.invariant.1 (omega (arith, W.size)) (going_in L.invariant.0 (omega arith)) (omega arith) (going_looped L.invariant.0 (omega arith) W); used = going_used (going_more L.invariant.0 (omega arith) W) c.requires.long.marks_long c.clear.ensures }

pub loop-p-preserved : goal.loop-p-preserved
loop-p-preserved c = let L = c.loop-p in
    let W = c.walk-t.ensures in
    (going_more L.invariant.0 (omega arith) W, loop_pass c.args.c L.invariant.1 (omega (arith, W.size)) (omega arith))

pub shape_of-marks : goal.shape_of-marks
shape_of-marks c = (going_used c.loop-p.invariant.0 c.requires.long.marks_long c.clear.ensures).marks_kept.long

pub shape_of-halves : goal.shape_of-halves
shape_of-halves c = (going_used c.loop-p.invariant.0 c.requires.long.marks_long c.clear.ensures).halves_kept.long

pub shape_of-points : goal.shape_of-points
shape_of-points c = (going_used c.loop-p.invariant.0 c.requires.long.marks_long c.clear.ensures).points_kept.long

pub returns : goal.returns
returns c = let G = c.loop-p.invariant.0 in record { result_value = loop_off c.args.c c.loop-p.invariant.1 (omega (arith, G.up, G.all)); used = going_used G c.requires.long.marks_long c.clear.ensures }
