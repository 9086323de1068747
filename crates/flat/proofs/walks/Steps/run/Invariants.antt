use Prim.Native.Nat.{◌-◌}
use Rattle.flat.specs.work.Along.{along, crossings_in}
use Rattle.flat.proofs.Walked.{Running}
use Rattle.flat.proofs.walks.Steps.run.Given as goal

abbrev pub invariant-loop-next : goal.invariant-loop-next
invariant-loop-next l = Running (crossings_in l.self) (along l.self) l.d l.k l.e

abbrev pub decreases-loop-next : goal.decreases-loop-next
decreases-loop-next l = (crossings_in l.self) - l.k
