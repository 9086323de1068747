-- How far cells are written that are not walked.
use Rattle.std.specs.Prelude.{ℕ, ◌-◌, ◌≤◌, ◌<◌, ◌≡◌, List}
use Rattle.cell.specs.declared.Cell.{Cell}
use Rattle.cell.specs.work.Fits.{next_after, area_after}
use Rattle.cell.specs.Level.{by_edge}
use Rattle.cell.specs.claims.Table.{taken_counts}
use Rattle.direct.specs.claims.Direct.{Plain}

-- of the cells from `first` up to `end` those below k are written from index `at` of an area on: it is as it is then, and i is the next index
pub record Came (cell : ℕ → Cell) (first end : ℕ) (was : List ℕ) (at k : ℕ) (is : List ℕ) (i : ℕ) : Type 0 where
  pub from : first ≤ k
  pub upto : k - first ≤ end - first
  pub next : i ≡ next_after cell first was at (k - first)
  pub area : is ≡ area_after cell first was at (k - first)

-- the cells from c up to p, which is at most `end`, are level cells with d2 = 0
pub record PassedOver (counts sides : List ℕ) (c end p : ℕ) : Type 0 where
  pub from : c ≤ p
  pub upto : p ≤ end
  pub none : (k : ℕ) → c ≤ k → k < p → Plain (by_edge (taken_counts counts sides k))

-- the most cells that are walked at once, whether they are to be walked or not; nothing that is answered depends on it
abbrev pub longest_block : ℕ
longest_block = 4096
