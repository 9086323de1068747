use native.Mathlib.Omega.{arith}
use Rattle.counting.proofs.Stored.{stored_long}
use Rattle.cell.specs.work.Traced.{traced_triangle, traced_triangles}
use Rattle.cell.proofs.Storing.{run_none, run_place, run_more, run_all}
use Rattle.cell.proofs.write.write_loop.Goals as goal

pub many-m-requires : goal.many-m-requires
many-m-requires c = c.requires.n_value

pub loop-k-init : goal.loop-k-init
loop-k-init c = (c.many-m.ensures, run_none _ _ _)

pub triangle_of-t-requires : goal.triangle_of-t-requires
triangle_of-t-requires c = record { recorded_loop = c.requires.recorded_loop; n_value = c.requires.n_value; k_bound = omega arith }

pub put-requires : goal.put-requires
put-requires c = omega (arith, run_place c.loop-k.invariant.1, stored_long c.loop-k.invariant.1.stored, c.loop-k.invariant.0, c.requires.n_in_bounds)

pub overflow_add-i : goal.overflow_add-i
overflow_add-i c = omega (arith, run_place c.loop-k.invariant.1, c.loop-k.invariant.0, c.requires.n_in_bounds)

pub loop-k-preserved : goal.loop-k-preserved
loop-k-preserved c = (c.loop-k.invariant.0, run_more c.loop-k.invariant.1 c.triangle_of-t.ensures c.put.ensures)

pub shape_of-area : goal.shape_of-area
shape_of-area c = stored_long c.loop-k.invariant.1.stored

pub returns : goal.returns
unfolding traced_triangles traced_triangle
returns c = (omega (arith, run_place c.loop-k.invariant.1), run_all c.loop-k.invariant.1 _ (omega arith))
