use Prim.Native.Nat.{◌-◌, ◌≤◌}
use Rattle.cell.specs.claims.Table.{table_cell}
use Rattle.cell.specs.work.Walked.{Sized}
use Rattle.cell.proofs.Fits.{Put}
use Rattle.cell.proofs.drawing.put_in_all.Given as goal

abbrev pub invariant-loop-k : goal.invariant-loop-k
invariant-loop-k l = ((l.c ≤ l.k) × (l.k - l.c ≤ l.end - l.c)) × Sized l.initial.marks l.initial.halves l.initial.points l.marks l.halves l.points × Put (table_cell l.tables.cells.now l.tables.counts.now l.tables.names.now l.tables.sides.now l.tables.starts.now) l.c l.initial.area l.at (l.k - l.c) l.area l.i
