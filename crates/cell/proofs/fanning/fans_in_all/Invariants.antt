use Rattle.counting.specs.work.Stored.{Summed}
use Rattle.cell.specs.work.Limits.{most_in_cell}
use Rattle.cell.specs.claims.Middles.{fan_count}
use Rattle.cell.specs.claims.Table.{table_cell}
use Rattle.cell.specs.work.Walked.{Sized}
use Rattle.cell.proofs.fanning.fans_in_all.Given as goal

abbrev pub invariant-loop-c : goal.invariant-loop-c
invariant-loop-c l = Sized l.initial.marks l.initial.halves l.initial.points l.marks l.halves l.points × Summed (λ k. fan_count (table_cell l.tables.cells.now l.tables.counts.now l.tables.names.now l.tables.sides.now l.tables.starts.now k)) most_in_cell l.c l.t
