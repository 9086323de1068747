use Prim.Native.Nat.{ℕ, ◌≤◌}
use mathlib.Core.Path.{◌≡◌}
use lib.ListN.{length, get_or}
use Rattle.counting.specs.Lists.{over}
use Rattle.counting.specs.work.Stored.{Stored}
use Rattle.grid.specs.Lent.{lent}
use Rattle.layers.proofs.Calls.{words_of}
use Rattle.layers.proofs.join_runs.Given as goal

abbrev pub invariant-loop-r : goal.invariant-loop-r
invariant-loop-r l = record {
  marks : (e : ℕ) → get_or l.used e 0 ≤ l.r;
  long : length l.area ≡ length l.initial.area;
  stored : Stored l.initial.area 0 (over (words_of (lent l.whole.grid) l.cuts) l.r 0) l.area l.i;
}
