use Rattle.grid.proofs.Places.{Walking}
use Rattle.grid.proofs.numbering.walk.Given as goal

abbrev pub invariant-loop-j : goal.invariant-loop-j
invariant-loop-j g l = Walking l.chain.head l.chain.next l.r l.from l.to l.keys l.base l.ids l.initial.at l.initial.out l.m l.at l.out l.j

abbrev pub decreases-loop-j : goal.decreases-loop-j
decreases-loop-j g l = l.j
