use native.Mathlib.Omega.{arith}
use mathlib.Core.Path.{sym, ap, ◌∙◌}
use lib.ListN.{length}
use Rattle.counting.specs.Lists.{over}
use Rattle.counting.proofs.Stored.{stored_none, stored_long}
use Rattle.cell.specs.Cell.{crossings}
use Rattle.cell.specs.Of.{edges_of}
use Rattle.cell.specs.Triangles.{asked_triangles, triangles_with}
use Rattle.cell.proofs.Going.{going_start, going_in, going_lent, going_more, going_looped, going_part, going_used}
use Rattle.cell.proofs.Holding.{looped_traced, looped_four, looped_loop, looped_many, in-loop, left_out}
use Rattle.cell.proofs.Storing.{written_all, written_room, written_more}
use Rattle.cell.proofs.parts.write_part.Goals as goal

pub routes_of-routes-requires : goal.routes_of-routes-requires
routes_of-routes-requires c = c.requires.room.near

pub clear-requires : goal.clear-requires
clear-requires c = c.requires.room.long.marks_long

pub loop-p-init : goal.loop-p-init
unfolding over
loop-p-init c = (going_start _ (c.requires.room.all, c.requires.room.few) c.routes_of-routes.ensures c.requires.room.long c.clear.ensures, stored_none _ _)

pub walk-w-requires : goal.walk-w-requires
walk-w-requires c = going_lent c.loop-p.invariant.0 (omega arith)

pub loop-p-preserved-then-leaves_out : goal.loop-p-preserved-then-leaves_out
loop-p-preserved-then-leaves_out c = let L = c.loop-p in
    let W = c.walk-w.ensures in
    (going_more L.invariant.0 (omega arith) W, left_out c.args.only (going_looped L.invariant.0 (omega arith) W) c.leaves_out.ensures L.invariant.1 c.if-leaves_out.true)

pub slice_bounds-write_shape-end : goal.slice_bounds-write_shape-end
slice_bounds-write_shape-end c = (going_part c.loop-p.invariant.0 (omega arith) c.walk-w.ensures).0

pub slice_bounds-write_shape-end-in-loop-p : goal.slice_bounds-write_shape-end-in-loop-p
slice_bounds-write_shape-end-in-loop-p c = (going_part c.loop-p.invariant.0 (omega arith) c.walk-w.ensures).1

pub write_shape-i-requires : goal.write_shape-i-requires
unfolding triangles_with
write_shape-i-requires c = let L = going_looped c.loop-p.invariant.0 (omega arith) c.walk-w.ensures in let a = in-loop c.args.only L c.leaves_out.ensures c.if-leaves_out.false in record { recorded_loop = looped_traced L; n_value = looped_four L c.in_two-two.ensures; n_in_bounds = omega (arith, ap length a, looped_many L c.in_two-two.ensures, written_room _ _ c.loop-p.invariant.1 _ (going_in c.loop-p.invariant.0 (omega arith)), stored_long c.loop-p.invariant.1, c.requires.only_in_bounds) }

pub loop-p-preserved : goal.loop-p-preserved
loop-p-preserved c = let L = going_looped c.loop-p.invariant.0 (omega arith) c.walk-w.ensures in let a = in-loop c.args.only L c.leaves_out.ensures c.if-leaves_out.false in (going_more c.loop-p.invariant.0 (omega arith) c.walk-w.ensures, written_more _ _ c.loop-p.invariant.1 (looped_many L c.in_two-two.ensures ∙ ap length (sym a)) c.write_shape-i.ensures.0 (looped_loop L c.in_two-two.ensures ∙ sym a) c.write_shape-i.ensures.1)

pub shape_of-marks : goal.shape_of-marks
shape_of-marks c = (going_used c.loop-p.invariant.0 c.requires.room.long.marks_long c.clear.ensures).marks_kept.long

pub shape_of-halves : goal.shape_of-halves
shape_of-halves c = (going_used c.loop-p.invariant.0 c.requires.room.long.marks_long c.clear.ensures).halves_kept.long

pub shape_of-points : goal.shape_of-points
shape_of-points c = (going_used c.loop-p.invariant.0 c.requires.room.long.marks_long c.clear.ensures).points_kept.long

pub shape_of-area : goal.shape_of-area
shape_of-area c = stored_long c.loop-p.invariant.1

pub returns : goal.returns
unfolding triangles_with
returns c = let G = c.loop-p.invariant.0 in
    let v = c.args.c in
    record { value = written_all (asked_triangles v c.args.only) c.loop-p.p c.loop-p.invariant.1 (crossings (edges_of v)) (omega (arith, G.up, G.all)); used = going_used c.loop-p.invariant.0 c.requires.room.long.marks_long c.clear.ensures }
