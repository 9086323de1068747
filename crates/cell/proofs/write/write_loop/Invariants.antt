use Rattle.cell.specs.work.Traced.{traced_triangle}
use Rattle.cell.proofs.Storing.{Run}
use Rattle.manifold.specs.Shape.{shape_of, many_of}
use mathlib.Core.Path.{◌≡◌}
use Rattle.cell.proofs.write.write_loop.Given as goal

abbrev pub invariant-loop-k : goal.invariant-loop-k
invariant-loop-k l = (l.m ≡ many_of (shape_of l.n l.two) l.n) × Run (traced_triangle l.c l.halves l.points l.n (shape_of l.n l.two)) l.k l.initial.area l.at l.area l.i
