use Rattle.cell.specs.Of.{edges_of}
use Rattle.cell.proofs.Going.{Going}
use Rattle.cell.proofs.Cells.{least_at, Seeking}
use Rattle.cell.proofs.loop_in.Given as goal

abbrev pub invariant-loop-p : goal.invariant-loop-p
invariant-loop-p l = Going l.c l.n l.routes l.initial.marks l.initial.halves l.initial.points l.marks l.halves l.points l.p × Seeking (least_at (edges_of l.c)) l.k l.p l.left
