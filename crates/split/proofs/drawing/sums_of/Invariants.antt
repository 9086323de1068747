use Rattle.counting.specs.work.Stored.{Summed}
use Rattle.slots.specs.Limits.{most_count}
use Rattle.cell.specs.work.Limits.{most_in_cell}
use Rattle.cell.specs.work.Table.{table_crossings}
use Rattle.split.specs.work.Table.{most_more}
use Rattle.split.specs.work.Gains.{splits_at, more_at}
use Rattle.split.proofs.drawing.sums_of.Given as goal

abbrev pub invariant-loop-c : goal.invariant-loop-c
invariant-loop-c l = Summed (table_crossings l.counts l.sides) most_in_cell l.c l.crossings × Summed (splits_at l.counts l.sides) most_count l.c l.splits × Summed (more_at l.counts l.sides) most_more l.c l.more
