use Prim.Native.Nat.{◌%◌}
use lib.ListN.{get_or}
use Rattle.cell.specs.claims.Table.{short_limit, side}
use Rattle.cell.proofs.Values.{Valued}
use Rattle.cell.proofs.entries.starts_of.Given as goal

abbrev pub invariant-loop-k : goal.invariant-loop-k
invariant-loop-k l = Valued (λ j. get_or l.starts (side l.sides l.c j) 0 % short_limit) 6 l.initial.six l.k l.six
