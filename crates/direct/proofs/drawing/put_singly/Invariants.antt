use Prim.Native.Nat.{◌-◌, ◌≤◌}
use Rattle.cell.specs.work.Tables.{cell_in}
use Rattle.cell.proofs.Fits.{Put}
use Rattle.direct.proofs.drawing.put_singly.Given as goal

abbrev pub invariant-loop-k : goal.invariant-loop-k
invariant-loop-k l = (l.k - l.c ≤ l.end - l.c) × Put (cell_in l.tables) l.c l.initial.area l.at (l.k - l.c) l.area l.i
