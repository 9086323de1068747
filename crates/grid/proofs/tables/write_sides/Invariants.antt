use Prim.Native.Nat.{◌-◌}
use mathlib.Core.Path.{◌≡◌}
use lib.ListN.{get_or}
use Rattle.counting.specs.Stored.{filled}
use Rattle.grid.proofs.tables.write_sides.Given as goal

abbrev pub invariant-loop-j : goal.invariant-loop-j
invariant-loop-j l = (l.sides ≡ filled (λ j. get_or l.listed j 0 - 1) l.j l.initial.sides)
