use Prim.Native.Nat.{ℕ, ◌<◌, ◌≤◌}
use lib.ListN.{get_or}
use Rattle.cell.proofs.entries.greatest.Given as goal

abbrev pub invariant-loop-n : goal.invariant-loop-n
invariant-loop-n l = ((j : ℕ) → j < l.n-index → get_or l.counts j 0 ≤ l.most)
