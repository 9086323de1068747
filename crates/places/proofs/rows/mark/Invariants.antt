use Rattle.grid.proofs.Nodes.{Noted}
use Rattle.places.proofs.rows.mark.Given as goal

abbrev pub invariant-loop-v : goal.invariant-loop-v
invariant-loop-v l = Noted l.cells (λ v. 1) 0 l.v-index l.used
