use Prim.Native.Nat.{◌≤◌}
use Rattle.cell.specs.Of.{edges_of}
use Rattle.cell.proofs.Route.{Rises}
use Rattle.cell.proofs.routes.firsts_of.Given as goal

abbrev pub invariant-loop-k : goal.invariant-loop-k
invariant-loop-k l = (1 ≤ l.k) × Rises (edges_of l.c) l.k l.n l.f
