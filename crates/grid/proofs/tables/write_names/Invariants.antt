use mathlib.Core.Path.{◌≡◌}
use lib.ListN.{get_or}
use Rattle.counting.specs.Stored.{filled}
use Rattle.grid.specs.work.Work.{lower_place}
use Rattle.grid.proofs.tables.write_names.Given as goal

abbrev pub invariant-loop-j : goal.invariant-loop-j
invariant-loop-j l = (l.names ≡ filled (λ j. lower_place j (get_or l.across j 0)) l.j l.initial.names)
