use Prim.Native.Nat.{◌-◌, ◌≤◌}
use Rattle.cell.specs.work.Tables.{cell_in}
use Rattle.cell.proofs.Fits.{Put}
use Rattle.direct.specs.work.Cells.{longest_block}
use Rattle.direct.proofs.drawing.write_cells.Given as goal

abbrev pub invariant-loop-k : goal.invariant-loop-k
invariant-loop-k l = ((l.c ≤ l.k) × (l.k - l.c ≤ l.end - l.c)) × (l.b ≤ longest_block) × Put (cell_in l.tables) l.c l.initial.area l.at (l.k - l.c) l.area l.i

abbrev pub decreases-loop-k : goal.decreases-loop-k
decreases-loop-k l = l.end - l.k
