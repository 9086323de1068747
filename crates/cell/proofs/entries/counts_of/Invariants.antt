use lib.ListN.{get_or}
use Rattle.cell.specs.claims.Table.{side}
use Rattle.cell.proofs.Values.{Valued}
use Rattle.cell.proofs.entries.counts_of.Given as goal

abbrev pub invariant-loop-k : goal.invariant-loop-k
invariant-loop-k l = Valued (λ j. get_or l.counts (side l.sides l.c j) 0) 6 l.initial.six l.k l.six
