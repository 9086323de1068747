use Prim.Native.Nat.{ℕ, ◌<◌}
use mathlib.Core.Path.{◌≡◌}
use lib.ListN.{length, get_or}
use Rattle.cell.specs.Cell.{base}
use Rattle.cell.specs.Of.{edges_of}
use Rattle.direct.proofs.level.LevelCell.firsts_of.Given as goal

abbrev pub invariant-loop-k : goal.invariant-loop-k
invariant-loop-k l = (length l.f ≡ 6) × ((i : ℕ) → i < l.k → get_or l.f i 0 ≡ base (edges_of l.self.cell) i)
