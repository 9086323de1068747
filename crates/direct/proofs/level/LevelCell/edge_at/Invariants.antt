use Prim.Native.Nat.{ℕ, ◌<◌}
use Rattle.direct.proofs.Laying.{OtherEdge}
use Rattle.direct.proofs.level.LevelCell.edge_at.Given as goal

abbrev pub invariant-loop-k : goal.invariant-loop-k
invariant-loop-k l = (j : ℕ) → j < l.k → OtherEdge l.self.six l.firsts l.p j
