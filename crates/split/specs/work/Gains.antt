-- What the splits of the cells of a grid's tables come to.
use Rattle.std.specs.Prelude.{ℕ, ◌*◌, ◌≤◌, ◌<◌, ◌≡◌, List, Option, None, Some}
use Rattle.counting.specs.Lists.{total, over}
use Rattle.slots.specs.Limits.{most_count, most_cells}
use Rattle.cell.specs.Level.{by_edge}
use Rattle.cell.specs.Words.{all_words}
use Rattle.cell.specs.Triangles.{cell_triangles}
use Rattle.cell.specs.claims.Table.{table_cell, taken_counts}
use Rattle.cell.specs.work.Table.{table_crossings, most_triangles}
use Rattle.booking.specs.claims.Booking.{splits_in, more_in}
use Rattle.split.specs.declared.SplitCell.{SplitCell}
use Rattle.split.specs.work.Table.{most_more}

-- the words of the triangles of the loops of n cells of the tables, from cell c on
abbrev pub loop_words : (cells counts names sides starts : List ℕ) (c n : ℕ) → List ℕ
loop_words cells counts names sides starts c n = over (λ k. all_words (cell_triangles (table_cell cells counts names sides starts k))) n c

module _ (counts sides : List ℕ) where
  -- the splits of cell c, and what they add
  unfoldable pub splits_at : ℕ → ℕ
  splits_at c = splits_in (by_edge (taken_counts counts sides c))

  unfoldable pub more_at : ℕ → ℕ
  more_at c = more_in (by_edge (taken_counts counts sides c))

  -- the cells from c up to e are not split; e is the next that is, below n, and in it so many splits are made, or e is n and there are none
  pub record IsStretch (c n e splits : ℕ) : Type 0 where
    pub from : c ≤ e
    pub within : e ≤ n
    pub none : (k : ℕ) → c ≤ k → k < e → splits_at k ≡ 0
    pub last : splits ≡ 0 → e ≡ n
    pub after : 0 < splits → (e < n) × (splits ≡ splits_at e)

  -- s is the next cell from c on, below n, that is split, or there is none
  abbrev pub IsNext : (c n : ℕ) → Option SplitCell → Type 0
  IsNext c n None = IsStretch c n n 0
  IsNext c n (Some s) = (0 < s.splits) × IsStretch c n s.index s.splits

  -- of n cells, with their crossings
  pub record AreSums (n crossings splits more : ℕ) : Type 0 where
    pub crossings_are : crossings ≡ total (table_crossings counts sides) n 0
    pub splits_are : splits ≡ total splits_at n 0
    pub more_is : more ≡ total more_at n 0
    pub few_crossings : crossings ≤ most_triangles
    pub few-splits : splits ≤ most_count * most_cells
    pub few_more : more ≤ most_more * most_cells
