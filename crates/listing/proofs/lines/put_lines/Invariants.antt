use Prim.Native.Nat.{◌+◌, ◌*◌, ◌≤◌}
use mathlib.Core.Path.{◌≡◌}
use lib.ListN.{length}
use Rattle.counting.specs.Lists.{over}
use Rattle.counting.specs.work.Stored.{Stored}
use Rattle.listing.specs.work.Text.{line_room}
use Rattle.listing.specs.Text.{line}
use Rattle.listing.proofs.lines.put_lines.Given as goal

abbrev pub invariant-loop-t : goal.invariant-loop-t
invariant-loop-t l = (length l.out ≡ length l.initial.out) × (l.end ≤ l.at + line_room * l.t) × Stored l.initial.out l.at (over (line l.area) l.t 0) l.out l.end
