use Prim.Native.Nat.{◌*◌}
use Rattle.grid.proofs.Nodes.{Noted}
use Rattle.shading.specs.work.Work.{no_link}
use Rattle.shading.proofs.links.make_roots.Given as goal

abbrev pub invariant-loop-x : goal.invariant-loop-x
invariant-loop-x l = Noted l.cells (λ x. 2 * x) no_link l.x-index l.links
