-- Only contracts of parts cite this file, and `crossings_in` its limit. What is summed over the cells of a grid's tables: the triangles of the cells that
-- have an entry in the table or are booked, and the crossings of the others.
use Rattle.std.specs.Prelude.{ℕ, ◌+◌, ◌≤◌, ◌≡◌, List}
use Rattle.counting.specs.Pick.{pick}
use Rattle.counting.specs.Lists.{total}
use Rattle.cell.specs.Level.{by_edge, is_level_cell}
use Rattle.cell.specs.Common.{is_common}
use Rattle.cell.specs.work.Table.{is_known, table_crossings, most_triangles}
use Rattle.cell.specs.claims.Table.{taken_counts}
use Rattle.cases.specs.claims.Cases.{entry_of}
use Rattle.cases.specs.claims.Tally.{triangles_at}
use Rattle.booking.specs.claims.Booking.{booked}

-- the most that six counts of 16 bits add up to
abbrev pub most_counts : ℕ
most_counts = 393210

-- of cell c of the tables
module _ (counts sides : List ℕ) where
  abbrev pub counts_at : ℕ → (ℕ → ℕ)
  counts_at c = by_edge (taken_counts counts sides c)

  -- its triangles by its entry, by the booking where it has none, and either way
  unfoldable pub common_at : ℕ → ℕ
  common_at c = pick (is_common (counts_at c)) (triangles_at (entry_of (counts_at c))) 0

  unfoldable pub booked_at : ℕ → ℕ
  booked_at c = pick (is_common (counts_at c)) 0 (pick (is_level_cell (counts_at c)) (booked (counts_at c)) 0)

  unfoldable pub known_at : ℕ → ℕ
  known_at c = common_at c + booked_at c

  unfoldable pub crossings_at : ℕ → ℕ
  crossings_at c = pick (is_known (counts_at c)) 0 (table_crossings counts sides c)

  -- of n cells
  pub record AreTotals (n triangles crossings : ℕ) : Type 0 where
    pub triangles_are : triangles ≡ total known_at n 0
    pub crossings_are : crossings ≡ total crossings_at n 0
    pub few_triangles : triangles ≤ most_triangles
    pub few_crossings : crossings ≤ most_triangles
