use Rattle.cell.specs.Of.{count_of}
use Rattle.split.proofs.Arms.{Arms}
use Rattle.split.proofs.Spiral.put_split.Given as goal

abbrev pub invariant-loop-m : goal.invariant-loop-m
invariant-loop-m l = Arms (count_of l.self.cell) l.at l.initial.area l.i l.m l.area l.k
