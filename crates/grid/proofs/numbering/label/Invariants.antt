use Prim.Native.Nat.{◌<◌}
use Rattle.grid.specs.work.Numbered.{Does}
use Rattle.grid.proofs.numbering.label.Given as goal

abbrev pub invariant-loop-j : goal.invariant-loop-j
invariant-loop-j l = Does (λ i. i < l.j) l.cells 0 0 l.initial.at l.initial.out l.m l.at l.out
