use Rattle.grid.specs.work.Numbered.{Does}
use Rattle.grid.specs.work.Walks.{InSlots}
use Rattle.grid.proofs.numbering.numbers.Given as goal

abbrev pub invariant-loop-s : goal.invariant-loop-s
invariant-loop-s l = Does (InSlots l.c l.from l.s) l.keys l.base l.ids l.initial.at l.initial.out l.m l.at l.out
