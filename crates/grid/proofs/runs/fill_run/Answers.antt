use native.Mathlib.Omega.{arith}
use Rattle.grid.proofs.Laying.{filling_more}
use Rattle.grid.proofs.runs.fill_run.Goals as goal

pub loop-e-preserved : goal.loop-e-preserved
loop-e-preserved c = filling_more c.loop-e.invariant (omega arith) c.if-edges-e.false c.min.result c.min.ensures _ c.put_at.ensures
