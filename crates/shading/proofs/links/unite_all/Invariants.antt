use Rattle.shading.specs.work.Work.{TiedAll}
use Rattle.shading.proofs.links.unite_all.Given as goal

abbrev pub invariant-loop-e : goal.invariant-loop-e
invariant-loop-e l = TiedAll l.edges l.counts l.initial.links l.e l.links
