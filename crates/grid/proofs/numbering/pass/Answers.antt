use native.Mathlib.Omega.{arith}
use Rattle.grid.proofs.Passes.{passing_a, passing_b, passing_end, passing_more}
use Rattle.grid.proofs.numbering.pass.Goals as goal

pub walk-d-requires : goal.walk-d-requires
walk-d-requires g c = (omega (arith, c.well_formed), passing_a c.loop-r.invariant c.requires (omega arith))

pub walk-ids-requires : goal.walk-ids-requires
walk-ids-requires g c = (omega (arith, c.well_formed), passing_b c.loop-r.invariant c.requires (omega arith) c.walk-d.ensures)

pub loop-r-preserved : goal.loop-r-preserved
loop-r-preserved g c = passing_more c.loop-r.invariant (omega arith) c.walk-d.ensures c.walk-ids.ensures

pub returns : goal.returns
returns g c = passing_end c.loop-r.invariant (omega arith)
