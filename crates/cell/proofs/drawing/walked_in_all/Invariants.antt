use Rattle.counting.specs.work.Stored.{Summed}
use Rattle.cell.specs.work.Limits.{most_in_cell}
use Rattle.cell.specs.work.Table.{walked_at}
use Rattle.cell.specs.work.Walked.{Sized}
use Rattle.cell.proofs.drawing.walked_in_all.Given as goal

abbrev pub invariant-loop-c : goal.invariant-loop-c
invariant-loop-c l = Sized l.initial.marks l.initial.halves l.initial.points l.marks l.halves l.points × Summed (walked_at l.tables.cells.now l.tables.counts.now l.tables.names.now l.tables.sides.now l.tables.starts.now) most_in_cell l.c l.t
