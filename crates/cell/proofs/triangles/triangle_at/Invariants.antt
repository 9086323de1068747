use Rattle.cell.specs.Triangles.{loop_triangles}
use Rattle.cell.proofs.Going.{Going}
use Rattle.cell.proofs.Cells.{Seeking}
use Rattle.cell.proofs.triangles.triangle_at.Given as goal

abbrev pub invariant-loop-p : goal.invariant-loop-p
invariant-loop-p l = Going l.v l.n l.routes l.initial.marks l.initial.halves l.initial.points l.marks l.halves l.points l.p × Seeking (loop_triangles l.v) l.t l.p l.left
