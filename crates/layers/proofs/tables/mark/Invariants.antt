use Rattle.layers.specs.work.Work.{EdgesMarked}
use Rattle.layers.proofs.tables.mark.Given as goal

abbrev pub invariant-loop-j : goal.invariant-loop-j
invariant-loop-j l = EdgesMarked l.from l.j l.m l.sides l.initial.used l.used
