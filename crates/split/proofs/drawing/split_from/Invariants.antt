use Prim.Native.Nat.{ℕ, ◌≤◌, ◌<◌}
use mathlib.Core.Path.{◌≡◌}
use Rattle.split.specs.work.Gains.{splits_at}
use Rattle.split.proofs.drawing.split_from.Given as goal

abbrev pub invariant-loop-e : goal.invariant-loop-e
invariant-loop-e l = (k : ℕ) → l.c ≤ k → k < l.e → splits_at l.tables.counts.now l.tables.sides.now k ≡ 0
