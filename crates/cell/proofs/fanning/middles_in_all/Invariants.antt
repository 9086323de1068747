use Prim.Native.Nat.{◌-◌, ◌≤◌}
use mathlib.Core.Path.{◌≡◌}
use Rattle.cell.specs.work.Table.{middles_written}
use Rattle.cell.specs.work.Walked.{Sized}
use Rattle.cell.proofs.fanning.middles_in_all.Given as goal

abbrev pub invariant-loop-k : goal.invariant-loop-k
invariant-loop-k l = ((l.c ≤ l.k) × (l.k - l.c ≤ l.end - l.c)) × Sized l.initial.marks l.initial.halves l.initial.points l.marks l.halves l.points × ((l.area, l.i) ≡ middles_written l.tables.cells.now l.tables.counts.now l.tables.names.now l.tables.sides.now l.tables.starts.now l.nodes l.c l.initial.area l.at (l.k - l.c))
