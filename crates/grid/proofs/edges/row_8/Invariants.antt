use Rattle.std.specs.Prelude.{ℕ, ◌<◌, ◌≡◌, false}
use Prim.Native.Nat.{◌+◌}
use lib.Dec.{eqb}
use lib.ListN.{get_or}
use Rattle.grid.proofs.edges.row_8.Given as goal

abbrev pub invariant-loop-e : goal.invariant-loop-e
invariant-loop-e l = (i : ℕ) → i < l.e → eqb (get_or l.top (i + 1) 0) 0 ≡ false
