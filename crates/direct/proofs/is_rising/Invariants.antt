use Rattle.cell.specs.Level.{by_edge}
use Prim.Native.Nat.{ℕ, suc, ◌≤◌, ◌<◌}
use Rattle.direct.proofs.is_rising.Given as goal

abbrev pub invariant-loop-k : goal.invariant-loop-k
invariant-loop-k l = (i : ℕ) → i < l.k → by_edge l.starts i ≤ by_edge l.starts (suc i)
