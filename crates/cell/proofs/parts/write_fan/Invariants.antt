use Rattle.manifold.specs.Shape.{fan}
use Rattle.cell.specs.work.Traced.{traced_triangle}
use Rattle.cell.proofs.Storing.{Run}
use Rattle.cell.proofs.parts.write_fan.Given as goal

abbrev pub invariant-loop-k : goal.invariant-loop-k
invariant-loop-k l = Run (traced_triangle l.c l.halves l.points l.n fan) l.k l.initial.area l.at l.area l.i
