use mathlib.Core.Path.{◌≡◌}
use Rattle.split.specs.work.Spots.{cells_stored, inner_at_cell}
use Rattle.split.proofs.spots.write_inner.Given as goal

abbrev pub invariant-loop-c : goal.invariant-loop-c
invariant-loop-c l = (l.area, l.i) ≡ cells_stored (inner_at_cell l.tables.cells.now l.tables.counts.now l.tables.names.now l.tables.sides.now l.tables.starts.now l.nodes) l.initial.area l.at l.c
