use native.Mathlib.Omega.{arith}
use Prim.Native.Nat.{◌+◌}
use mathlib.Core.Path.{refl}
use Rattle.counting.specs.Search.{count}
use Rattle.counting.proofs.Search.{count_le}
use Rattle.cell.specs.Middles.{is_fan}
use Rattle.cell.proofs.Going.{going_start, going_lent, going_more, going_looped, going_used}
use Rattle.cell.proofs.Fans.{fans_more, fans_all}
use Rattle.cell.proofs.middles.count.Goals as goal

pub routes_of-routes-requires : goal.routes_of-routes-requires
routes_of-routes-requires c = c.requires.near

pub clear-requires : goal.clear-requires
clear-requires c = c.requires.long.marks_long

pub loop-p-init : goal.loop-p-init
unfolding count
loop-p-init c = (going_start _ (c.requires.all, c.requires.few) c.routes_of-routes.ensures c.requires.long c.clear.ensures, refl)

pub walk-w-requires : goal.walk-w-requires
walk-w-requires c = going_lent c.loop-p.invariant.0 (omega arith)

pub overflow_add-t : goal.overflow_add-t
overflow_add-t c = omega (arith, fans_more (going_looped c.loop-p.invariant.0 (omega arith) c.walk-w.ensures) c.loop-p.invariant.1 c.fan_of-t.ensures, count_le (is_fan c.args.c) (c.loop-p.p + 1), c.loop-p.invariant.0.few)

pub loop-p-preserved : goal.loop-p-preserved
loop-p-preserved c = (going_more c.loop-p.invariant.0 (omega arith) c.walk-w.ensures, fans_more (going_looped c.loop-p.invariant.0 (omega arith) c.walk-w.ensures) c.loop-p.invariant.1 c.fan_of-t.ensures)

pub shape_of-marks : goal.shape_of-marks
shape_of-marks c = (going_used c.loop-p.invariant.0 c.requires.long.marks_long c.clear.ensures).marks_kept.long

pub shape_of-halves : goal.shape_of-halves
shape_of-halves c = (going_used c.loop-p.invariant.0 c.requires.long.marks_long c.clear.ensures).halves_kept.long

pub shape_of-points : goal.shape_of-points
shape_of-points c = (going_used c.loop-p.invariant.0 c.requires.long.marks_long c.clear.ensures).points_kept.long

pub returns : goal.returns
returns c = let G = c.loop-p.invariant.0 in record { value = fans_all _ c.loop-p.invariant.1 (omega (arith, G.up, G.all)) (omega (arith, G.all, G.few)); used = going_used G c.requires.long.marks_long c.clear.ensures }
