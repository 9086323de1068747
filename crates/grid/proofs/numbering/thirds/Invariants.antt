use Prim.Native.Nat.{◌*◌}
use mathlib.Core.Path.{◌≡◌}
use Rattle.counting.specs.Stored.{filled}
use Rattle.grid.specs.work.Walks.{corner}
use Rattle.grid.proofs.numbering.thirds.Given as goal

abbrev pub invariant-loop-c : goal.invariant-loop-c
invariant-loop-c l = (l.out ≡ filled (corner l.labels 2) (4 * l.c) l.initial.out)
