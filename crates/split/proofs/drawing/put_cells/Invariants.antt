use Prim.Native.Nat.{◌-◌, ◌≤◌}
use Rattle.counting.specs.Lists.{over}
use Rattle.counting.specs.work.Stored.{Stored}
use Rattle.cell.proofs.Storing.{words_of}
use Rattle.split.proofs.Tables.{drawn_at}
use Rattle.split.proofs.drawing.put_cells.Given as goal

abbrev pub invariant-loop-s : goal.invariant-loop-s
invariant-loop-s l = (l.c ≤ l.n) × Stored l.initial.area 0 (over (words_of (drawn_at l.tables.cells.now l.tables.counts.now l.tables.names.now l.tables.sides.now l.tables.starts.now)) l.c 0) l.area l.i

abbrev pub decreases-loop-s : goal.decreases-loop-s
decreases-loop-s l = l.n - l.c
