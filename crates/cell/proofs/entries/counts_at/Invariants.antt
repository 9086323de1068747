use Prim.Native.Nat.{◌%◌, min}
use lib.ListN.{get_or}
use Rattle.slots.specs.Limits.{most_count, most_cells}
use Rattle.cell.specs.claims.Table.{side}
use Rattle.cell.proofs.Values.{Valued}
use Rattle.cell.proofs.entries.counts_at.Given as goal

abbrev pub invariant-loop-k : goal.invariant-loop-k
invariant-loop-k l = Valued (λ j. min (get_or l.counts (side l.sides (l.c % most_cells) j) 0) most_count) 6 l.initial.six l.k l.six
