use Rattle.counting.specs.work.Stored.{Summed}
use Rattle.cell.specs.work.Limits.{most_in_cell}
use Rattle.cell.proofs.Going.{Going}
use Rattle.cell.proofs.Cells.{many_at}
use Rattle.cell.proofs.triangles.count.Given as goal

abbrev pub invariant-loop-p : goal.invariant-loop-p
invariant-loop-p l = Going l.c l.n l.routes l.initial.marks l.initial.halves l.initial.points l.marks l.halves l.points l.p × Summed (many_at l.c l.only) most_in_cell l.p l.t
