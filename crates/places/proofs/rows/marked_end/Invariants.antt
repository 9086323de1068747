use mathlib.Core.Path.{◌≡◌}
use lib.ListN.{length}
use Rattle.counting.specs.Search.{last}
use Rattle.places.specs.work.Work.{is_marked}
use Rattle.places.proofs.rows.marked_end.Given as goal

abbrev pub invariant-loop-v : goal.invariant-loop-v
invariant-loop-v l = last (is_marked l.used) (length l.used) ≡ last (is_marked l.used) l.v
