use Prim.Native.Nat.{◌-◌}
use Rattle.direct.proofs.Laying.{Reached}
use Rattle.direct.proofs.level.LevelCell.put_laid.Given as goal

abbrev pub invariant-loop-p : goal.invariant-loop-p
invariant-loop-p l = Reached l.self.cell l.quads l.initial.area l.at l.p l.area l.i

abbrev pub decreases-loop-p : goal.decreases-loop-p
decreases-loop-p l = l.n - l.p
