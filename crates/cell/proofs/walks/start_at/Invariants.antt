use Prim.Native.Nat.{ℕ, ◌<◌}
use mathlib.Core.Path.{◌≡◌}
use mathlib.Core.Bool.{false}
use Rattle.cell.specs.Cell.{holds}
use Rattle.cell.specs.Of.{edges_of}
use Rattle.cell.proofs.walks.start_at.Given as goal

abbrev pub invariant-loop-e : goal.invariant-loop-e
invariant-loop-e l = ((i : ℕ) → i < l.e → holds (edges_of l.c) l.p i ≡ false)
