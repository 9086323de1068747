use Prim.Native.Nat.{◌-◌, ◌≤◌}
use mathlib.Core.Path.{◌≡◌}
use Rattle.split.specs.work.Spots.{cells_stored, middles_at_cell}
use Rattle.split.proofs.spots.write_drawn_middles.Given as goal

abbrev pub invariant-loop-s : goal.invariant-loop-s
invariant-loop-s l = (l.c ≤ l.n) × ((l.area, l.i) ≡ cells_stored (middles_at_cell l.tables.cells.now l.tables.counts.now l.tables.names.now l.tables.sides.now l.tables.starts.now l.nodes) l.initial.area l.at l.c)

abbrev pub decreases-loop-s : goal.decreases-loop-s
decreases-loop-s l = l.n - l.c
