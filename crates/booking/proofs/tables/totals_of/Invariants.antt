use Prim.Native.Nat.{ℕ}
use mathlib.Core.List.{List}
use Rattle.counting.specs.work.Stored.{Summed}
use Rattle.cell.specs.work.Limits.{most_in_cell}
use Rattle.cases.specs.claims.Tally.{find_entry_at}
use Rattle.cases.specs.work.Tally.{Tallied}
use Rattle.booking.specs.work.Totals.{booked_at, crossings_at}
use Rattle.booking.proofs.tables.totals_of.Given as goal

-- what is had of the first c cells
pub record Had (counts sides : List ℕ) (c : ℕ) (tally : List ℕ) (booked crossings : ℕ) : Type 0 where
  pub tallied : Tallied (find_entry_at counts sides) c tally
  pub summed : Summed (booked_at counts sides) most_in_cell c booked
  pub crossed : Summed (crossings_at counts sides) most_in_cell c crossings

abbrev pub invariant-loop-c : goal.invariant-loop-c
invariant-loop-c l = Had l.tables.counts.now l.tables.sides.now l.c l.tally l.booked l.crossings
