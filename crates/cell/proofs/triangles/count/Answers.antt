use native.Mathlib.Omega.{arith}
use mathlib.Core.Path.{◌∙◌}
use Rattle.counting.proofs.Stored.{summed_none}
use Rattle.cell.proofs.Going.{going_start, going_lent, going_more, going_looped, going_used}
use Rattle.cell.proofs.Taken.{two_four}
use Rattle.cell.proofs.Holding.{looped_many, is_out, is-in}
use Rattle.cell.proofs.Cells.{counted_more, counted_less, counted_all}
use Rattle.cell.proofs.triangles.count.Goals as goal

pub routes_of-routes-requires : goal.routes_of-routes-requires
routes_of-routes-requires c = c.requires.near

pub clear-requires : goal.clear-requires
clear-requires c = c.requires.long.marks_long

pub loop-p-init : goal.loop-p-init
loop-p-init c = (going_start _ (c.requires.all, c.requires.few) c.routes_of-routes.ensures c.requires.long c.clear.ensures, summed_none _ _)

pub walk-w-requires : goal.walk-w-requires
walk-w-requires c = going_lent c.loop-p.invariant.0 (omega arith)

pub loop-p-preserved-then-leaves_out : goal.loop-p-preserved-then-leaves_out
loop-p-preserved-then-leaves_out c = let L = c.loop-p in
    let W = c.walk-w.ensures in
    let O = going_looped L.invariant.0 (omega arith) W in
    (going_more L.invariant.0 (omega arith) W, counted_less c.args.only O L.invariant.1 (is_out c.args.only O c.leaves_out.ensures c.if-leaves_out.true))

pub many-t-requires : goal.many-t-requires
many-t-requires c = two_four _ _ _ c.in_two.ensures

pub overflow_add-t : goal.overflow_add-t
overflow_add-t c = omega (arith, (counted_more c.args.only (going_looped c.loop-p.invariant.0 (omega arith) c.walk-w.ensures) c.loop-p.invariant.1 _ (is-in c.args.only (going_looped c.loop-p.invariant.0 (omega arith) c.walk-w.ensures) c.leaves_out.ensures c.if-leaves_out.false) (c.many-t.ensures ∙ looped_many (going_looped c.loop-p.invariant.0 (omega arith) c.walk-w.ensures) c.in_two.ensures)).few, c.loop-p.invariant.0.few)

pub loop-p-preserved : goal.loop-p-preserved
loop-p-preserved c = (going_more c.loop-p.invariant.0 (omega arith) c.walk-w.ensures, counted_more c.args.only (going_looped c.loop-p.invariant.0 (omega arith) c.walk-w.ensures) c.loop-p.invariant.1 _ (is-in c.args.only (going_looped c.loop-p.invariant.0 (omega arith) c.walk-w.ensures) c.leaves_out.ensures c.if-leaves_out.false) (c.many-t.ensures ∙ looped_many (going_looped c.loop-p.invariant.0 (omega arith) c.walk-w.ensures) c.in_two.ensures))

pub shape_of-marks : goal.shape_of-marks
shape_of-marks c = (going_used c.loop-p.invariant.0 c.requires.long.marks_long c.clear.ensures).marks_kept.long

pub shape_of-halves : goal.shape_of-halves
shape_of-halves c = (going_used c.loop-p.invariant.0 c.requires.long.marks_long c.clear.ensures).halves_kept.long

pub shape_of-points : goal.shape_of-points
shape_of-points c = (going_used c.loop-p.invariant.0 c.requires.long.marks_long c.clear.ensures).points_kept.long

pub returns : goal.returns
returns c = let G = c.loop-p.invariant.0 in record { value = counted_all _ c.args.only c.loop-p.invariant.1 (omega (arith, G.up, G.all)) (omega (arith, G.up, G.few)); used = going_used c.loop-p.invariant.0 c.requires.long.marks_long c.clear.ensures }
