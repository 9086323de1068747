-- What an accepted grid is, in the words of 01's rows. The calls above the check rest on this alone.
use Rattle.std.specs.Prelude.{ℕ, ◌<◌, ◌*◌, ◌≤◌, ◌≡◌, List, ◌≢◌, length, get_or}
use Rattle.slots.specs.Slots.{position, lo, hi, slot_edge}
use Rattle.grid.specs.Grid.{node, Grid, cell_count, low, high, edge_number, count_of, start, crossings, Before}
use Rattle.slots.specs.Limits.{most_count, highest_node, most_cells, most_crossings}

module _ (cells : List ℕ) where
  -- slot t of cell d and slot s of cell c have the same nodes
  abbrev pub SameFace : ℕ → ℕ → ℕ → ℕ → Type 0
  SameFace d t c s = (i : ℕ) → i < 3 → node cells d (position t i) ≡ node cells c (position s i)

-- edge e of the list is edge k of cell c: it has the same ends
pub record EdgeIs (G : Grid) (c k e : ℕ) : Type 0 where
  pub low_is : low G.edges e ≡ node G.cells c (lo k)
  pub high_is : high G.edges e ≡ node G.cells c (hi k)

module _ (G : Grid) where
  -- without a fault of the rows 1 to 8, 18 and 10
  pub record Sound : Type 0 where
    -- 1: four numbers to a cell, and 1 to 2,048 cells
    pub fours : length G.cells ≡ 4 * cell_count G.cells
    pub some_cell : 0 < cell_count G.cells
    pub few_cells : cell_count G.cells ≤ most_cells
    -- 2: two ends to a count, and one start, the sum of the counts before
    pub pairs : length G.edges ≡ 2 * length G.counts
    pub starts_long : length G.starts ≡ length G.counts
    pub starts_are : (e : ℕ) → e < length G.counts → get_or G.starts e 0 ≡ start G.counts e
    -- 3: nodes within the limit, and strictly increasing; 4: no cell twice; 5: a face in at most two cells
    pub within : (c i : ℕ) → c < cell_count G.cells → i < 4 → node G.cells c i ≤ highest_node
    pub increasing : (c i j : ℕ) → c < cell_count G.cells → i < j → j < 4 → node G.cells c i < node G.cells c j
    pub distinct : (c d : ℕ) → c < cell_count G.cells → d < cell_count G.cells → ((i : ℕ) → i < 4 → node G.cells c i ≡ node G.cells d i) → c ≡ d
    pub third : (a b c r s t : ℕ) → a < cell_count G.cells → b < cell_count G.cells → c < cell_count G.cells → r < 4 → s < 4 → t < 4
        → SameFace G.cells a r b s → SameFace G.cells a r c t → a ≢ b → a ≢ c → b ≢ c → ⊥
    -- 6: each edge from its lower end to its higher, and the edges strictly sorted
    pub ends : (e : ℕ) → e < length G.counts → low G.edges e < high G.edges e
    pub sorted : (d e : ℕ) → d < e → e < length G.counts → Before (low G.edges d) (high G.edges d) (low G.edges e) (high G.edges e)
    -- 18: each count within the limit
    pub counts_within : (e : ℕ) → e < length G.counts → count_of G.counts e ≤ most_count
    -- 7: each edge of each cell is listed; 8: and no other
    pub listed : (c k : ℕ) → c < cell_count G.cells → k < 6 → (e : ℕ) × (e < length G.counts) × EdgeIs G c k e
    pub used : (e : ℕ) → e < length G.counts → (c : ℕ) × (k : ℕ) × (c < cell_count G.cells) × (k < 6) × EdgeIs G c k e
    -- 10: the crossings are few enough
    pub few_crossings : crossings G.counts ≤ most_crossings

  -- without a fault of row 9: the cells of an edge are all linked through faces that contain it. What passes over each such face holds of all of
  -- them or of none.
  abbrev pub Linked : Type 1
  Linked = (e : ℕ) → e < length G.counts → (Q : ℕ → Type 0)
      → ((a b r s j : ℕ) → a < cell_count G.cells → b < cell_count G.cells → r < 4 → s < 4 → j < 3 → SameFace G.cells a r b s → EdgeIs G a (slot_edge r j) e → Q a → Q b)
      → (a b k l : ℕ) → a < cell_count G.cells → b < cell_count G.cells → k < 6 → l < 6 → EdgeIs G a k e → EdgeIs G b l e → Q a → Q b

  pub record Accepted : Type 1 where
    pub sound : Sound
    pub linked : Linked

  -- the numbers of the cells' edges, where the rows 1 to 8 have no fault
  pub record EdgeNumbers : Type 0 where
    -- each cell's edge has one, and no two edges have the same ends
    pub listed : (c k : ℕ) → c < cell_count G.cells → k < 6 → edge_number G c k < length G.counts
    pub is : (c k : ℕ) → c < cell_count G.cells → k < 6 → EdgeIs G c k (edge_number G c k)
    pub only : (c k e : ℕ) → c < cell_count G.cells → k < 6 → e < length G.counts → EdgeIs G c k e → edge_number G c k ≡ e
    pub one_edge : (d e : ℕ) → d < length G.counts → e < length G.counts → low G.edges d ≡ low G.edges e → high G.edges d ≡ high G.edges e → d ≡ e
    pub used : (e : ℕ) → e < length G.counts → (c : ℕ) × (k : ℕ) × (c < cell_count G.cells) × (k < 6) × (edge_number G c k ≡ e)
    pub few : length G.counts ≤ 6 * cell_count G.cells
    -- in a cell an earlier edge has the lower number
    pub rising : (c k l : ℕ) → c < cell_count G.cells → k < l → l < 6 → edge_number G c k < edge_number G c l
