use Prim.Native.Nat.{◌+◌, ◌≤◌}
use Rattle.counting.specs.work.Stored.{Stored}
use Rattle.bundle.specs.Bundle.{leading_words}
use Rattle.bundle.proofs.reader.fill_words.Given as goal

abbrev pub invariant-loop-i : goal.invariant-loop-i
invariant-loop-i l = (l.i ≤ l.n) × Stored l.initial.list l.at (leading_words l.i l.body) l.list (l.at + l.i)
