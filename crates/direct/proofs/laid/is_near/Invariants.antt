use Prim.Native.Nat.{ℕ, ◌<◌}
use Rattle.cell.specs.work.Limits.{start_limit}
use Rattle.cell.specs.Of.{start_of}
use Rattle.direct.proofs.laid.is_near.Given as goal

abbrev pub invariant-loop-k : goal.invariant-loop-k
invariant-loop-k l = (i : ℕ) → i < l.k → start_of l.c i < start_limit
