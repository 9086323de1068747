use Prim.Native.Nat.{◌+◌, ◌*◌, ◌≤◌}
use mathlib.Core.Path.{◌≡◌}
use lib.ListN.{length}
use Rattle.counting.specs.Lists.{over}
use Rattle.counting.specs.work.Stored.{Stored}
use Rattle.listing.specs.work.Text.{word_room}
use Rattle.listing.specs.Text.{word_at}
use Rattle.listing.proofs.lines.put_words.Given as goal

abbrev pub invariant-loop-j : goal.invariant-loop-j
invariant-loop-j l = (length l.out ≡ length l.initial.out) × (l.end ≤ l.at + word_room * l.j) × Stored l.initial.out l.at (over (word_at l.area l.t) l.j 0) l.out l.end
