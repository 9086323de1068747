use Rattle.counting.specs.work.Stored.{Summed}
use Rattle.split.specs.work.Spots.{most_inner, inner_in, added_in}
use Rattle.split.proofs.spots.extra_of.Given as goal

abbrev pub invariant-loop-c : goal.invariant-loop-c
invariant-loop-c l = Summed (inner_in l.tables.counts.now l.tables.sides.now) most_inner l.c l.inner × Summed (added_in l.tables.counts.now l.tables.sides.now) most_inner l.c l.fans
