use Prim.Native.Nat.{◌-◌}
use Rattle.cell.proofs.Recording.{Recording}
use Rattle.cell.proofs.walks.walk.Given as goal

abbrev pub invariant-loop-e : goal.invariant-loop-e
invariant-loop-e l = Recording l.c l.n l.p l.initial.marks l.initial.halves l.initial.points l.marks l.halves l.points l.d l.k l.normal

abbrev pub decreases-loop-e : goal.decreases-loop-e
decreases-loop-e l = l.n - l.k
