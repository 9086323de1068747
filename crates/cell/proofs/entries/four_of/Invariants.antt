use Prim.Native.Nat.{◌+◌, ◌*◌}
use lib.ListN.{get_or}
use Rattle.cell.proofs.Values.{Valued}
use Rattle.cell.proofs.entries.four_of.Given as goal

abbrev pub invariant-loop-i : goal.invariant-loop-i
invariant-loop-i l = Valued (λ j. get_or l.list (4 * l.c + j) 0) 4 l.initial.four l.i l.four
