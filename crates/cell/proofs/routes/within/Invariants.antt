use Prim.Native.Nat.{◌-◌, min}
use Rattle.cell.specs.work.Limits.{start_limit}
use Rattle.cell.specs.Of.{start_of}
use Rattle.cell.proofs.Values.{Valued}
use Rattle.cell.proofs.routes.within.Given as goal

abbrev pub invariant-loop-k : goal.invariant-loop-k
invariant-loop-k l = Valued (λ e. min (start_of l.c e) (start_limit - 1)) 6 l.initial.starts l.k l.starts
