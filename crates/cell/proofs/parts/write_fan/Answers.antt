use native.Mathlib.Omega.{arith}
use Rattle.counting.proofs.Stored.{stored_long}
use Rattle.cell.proofs.Storing.{run_none, run_place, run_more, run_all}
use Rattle.cell.proofs.parts.write_fan.Goals as goal

pub loop-k-init : goal.loop-k-init
loop-k-init c = run_none _ _ _

pub spoke_of-t-requires : goal.spoke_of-t-requires
spoke_of-t-requires c = record { recorded_loop = c.requires.recorded_loop; k_lt_n = omega arith }

pub put-requires : goal.put-requires
put-requires c = let R = c.loop-k.invariant in
    omega (arith, run_place R, stored_long R.stored, c.requires.n_in_bounds)

pub overflow_add-i : goal.overflow_add-i
overflow_add-i c = omega (arith, run_place c.loop-k.invariant, c.requires.n_in_bounds)

pub loop-k-preserved : goal.loop-k-preserved
loop-k-preserved c = run_more c.loop-k.invariant c.spoke_of-t.ensures c.put.ensures

pub shape_of-area : goal.shape_of-area
shape_of-area c = stored_long c.loop-k.invariant.stored

pub returns : goal.returns
returns c = (omega (arith, run_place c.loop-k.invariant), run_all c.loop-k.invariant _ (omega arith))
