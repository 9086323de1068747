use Rattle.counting.specs.Lists.{over}
use Rattle.counting.specs.work.Stored.{Stored}
use Rattle.cell.specs.Triangles.{asked_triangles}
use Rattle.cell.proofs.Going.{Going}
use Rattle.cell.proofs.Storing.{words_of}
use Rattle.cell.proofs.parts.write_part.Given as goal

abbrev pub invariant-loop-p : goal.invariant-loop-p
invariant-loop-p l = Going l.c l.n l.routes l.initial.marks l.initial.halves l.initial.points l.marks l.halves l.points l.p × Stored l.initial.area l.at (over (words_of (asked_triangles l.c l.only)) l.p 0) l.area l.i
