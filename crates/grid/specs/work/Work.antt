-- What the check's own functions ask of each other: the meaning of their local tables.
use Rattle.std.specs.Prelude.{Result, Ok, Err, ℕ, ◌+◌, ◌*◌, ◌-◌, ◌/◌, ◌%◌, ◌≤◌, ◌<◌, ◌≡◌, ◌⊎◌, ◌≢◌, Bool, true, false, not, ◌&&◌, List, [], ◌∷◌, length, get_or, set, eqb, ltb}
use Rattle.answer.specs.Answer.{result_of, is_result}
use Rattle.answer.specs.Rows.{whole, answer_of}
use Rattle.answer.specs.work.Faults.{since}
use Rattle.counting.specs.Pick.{pick}
use Rattle.counting.specs.Search.{first, last, some, count}
use Rattle.slots.specs.claims.Slots.{rank_in, third_position}
use Rattle.slots.specs.Slots.{contains}
use Rattle.counting.specs.work.Tables.{Table, same_key}
use Rattle.answer.specs.Refusal.{refusal_numbers}
use Rattle.answer.specs.declared.Refusal.{Refusal}
use Rattle.grid.specs.Grid.{Grid, cell_count, node, same_face, is_edge, low, high, start, crossings, starts_of}
use Rattle.slots.specs.Limits.{highest_node, most_cells, most_crossings, most_slots}
use Rattle.slots.specs.work.Limits.{most_edges}
use Rattle.grid.specs.Rows.{bad_edge, bad_length, rows, unused}
use Rattle.grid.specs.Setting.{change_answer}
use Rattle.grid.specs.work.Shared.{found_or}
use Rattle.grid.specs.work.Walks.{Fresh}
use Rattle.grid.specs.work.Runs.{NodeChains, SidesPlaced, Tallied}

-- CELLS: what rows 1 and 3 leave of the cells

pub record RisingCells (cells : List ℕ) : Type 0 where
  pub small : (i : ℕ) → get_or cells i 0 < 65536
  pub few : cell_count cells ≤ most_cells
  pub nodes : (c i : ℕ) → c < cell_count cells → i < 4 → node cells c i ≤ highest_node
  pub rising : (c i : ℕ) → c < cell_count cells → i < 3 → node cells c i < node cells c (i + 1)

-- the key at j stands at two places before
unfoldable pub third_at : List ℕ → ℕ → Bool
third_at keys j = ltb 1 (count (same_key keys (get_or keys j 0)) j)

-- place i has a mate: another place with its key, whose mate is i
pub record Mate (keys near : List ℕ) (m i : ℕ) : Type 0 where
  pub lt : get_or near i 0 ≤ m
  pub ne : get_or near i 0 - 1 ≢ i
  pub same : get_or keys (get_or near i 0 - 1) 0 ≡ get_or keys i 0
  pub back : get_or near (get_or near i 0 - 1) 0 ≡ i + 1

-- near has the mates among the first m places, one more than each; 0 for none
pub record Mates (keys : List ℕ) (m : ℕ) (near : List ℕ) : Type 0 where
  pub pair : (i : ℕ) → i < m → 0 < get_or near i 0 → Mate keys near m i
  pub all : (i x : ℕ) → i < m → x < m → x ≢ i → get_or keys x 0 ≡ get_or keys i 0 → get_or near i 0 ≡ x + 1
  pub rest : (i : ℕ) → m ≤ i → get_or near i 0 ≡ 0

-- what `pair` starts from
pub record Pairable (keys : List ℕ) (n : ℕ) (seen near : List ℕ) : Type 0 where
  pub keyed : n ≤ length keys
  pub known : (j : ℕ) → j < n → get_or keys j 0 < length seen
  pub unseen : (k : ℕ) → get_or seen k 0 ≡ 0
  pub room : n ≤ length near
  pub small : n < 65535
  pub blank : Mates keys 0 near

-- the slot across slot j
pub record Across (cells near : List ℕ) (j : ℕ) : Type 0 where
  pub lt : get_or near j 0 ≤ 4 * cell_count cells
  pub other : (get_or near j 0 - 1) / 4 ≢ j / 4
  pub same : same_face cells ((get_or near j 0 - 1) / 4) ((get_or near j 0 - 1) % 4) (j / 4) (j % 4) ≡ true
  pub back : get_or near (get_or near j 0 - 1) 0 ≡ j + 1

-- near has the slots across the faces of the cells, one more than each; 0 for none
pub record Neighbours (cells near : List ℕ) : Type 0 where
  pub room : 4 * cell_count cells ≤ length near
  pub pair : (j : ℕ) → j < 4 * cell_count cells → 0 < get_or near j 0 → Across cells near j
  pub all : (d t c s : ℕ) → d < cell_count cells → t < 4 → c < cell_count cells → s < 4 → d ≢ c → same_face cells d t c s ≡ true
      → get_or near (4 * c + s) 0 ≡ 4 * d + t + 1

-- the cell across slot 0 of cell c is earlier, meets it with its own slot 0, and has the same lowest node
unfoldable pub again_at : (cells near : List ℕ) → ℕ → Bool
again_at cells near c =
    eqb (get_or near (4 * c) 0 % 4) 1 && (ltb (get_or near (4 * c) 0 / 4) c && eqb (node cells (get_or near (4 * c) 0 / 4) 0) (node cells c 0))

-- EDGES: the edges of the cells by their ends, and their places in the list

-- one more than x where x is below m, else 0
abbrev pub found_at : ℕ → ℕ → ℕ
found_at m x = found_or m x 0

-- one more than the place in the list of edge j % 6 of cell j / 6; 0 where it is not listed
unfoldable pub listed_at : Grid → ℕ → ℕ
listed_at G j = found_at (length G.counts) (first (is_edge G (j / 6) (j % 6)) (length G.counts))

-- no two edges of the list have the same ends
abbrev pub OneEach : Grid → Type 0
OneEach G = (d e : ℕ) → d < length G.counts → e < length G.counts → low G.edges d ≡ low G.edges e → high G.edges d ≡ high G.edges e → d ≡ e

-- what row 8 starts from: the places of the cells' edges, and for each the last edge of a cell that has it
pub record Usable (G : Grid) (sides top : List ℕ) : Type 0 where
  pub few : cell_count G.cells ≤ most_cells
  pub placed : SidesPlaced G.cells G.edges (length G.counts) sides
  pub one : OneEach G
  pub room : 6 * cell_count G.cells < length top
  pub tops : (t : ℕ) → t ≤ 6 * cell_count G.cells → get_or top t 0 ≡ last (same_key sides t) (6 * cell_count G.cells)

-- one of the six entries of cell c is 0
unfoldable pub blank_in : List ℕ → ℕ → Bool
blank_in sides c = some (λ k. eqb (get_or sides (6 * c + k) 0) 0) 6

-- LINKS: marks spread over the cells of an edge, from a cell across its two faces that contain the edge

-- the rank in slot s of the node that is no end of edge k
abbrev pub rank : ℕ → ℕ → ℕ
rank k s = rank_in s (third_position k s)

-- slot j is one of a cell's that contain the edge with this key
pub record KeySlot (keys : List ℕ) (key j : ℕ) : Type 0 where
  pub k : ℕ
  pub lt : k < 6
  pub is : get_or keys (6 * (j / 4) + k) 0 ≡ key
  pub holds : contains k (j % 4) ≡ true

-- what `other_side` starts from: slot s contains edge k
pub record OnSlot (k s : ℕ) : Type 0 where
  pub edge_lt : k < 6
  pub slot_lt : s < 4
  pub holds : contains k s ≡ true

-- near pairs the slots of n cells that are one face
pub record Paired (keys near : List ℕ) (n : ℕ) : Type 0 where
  pub keyed : 6 * n ≤ length keys
  pub room : 4 * n ≤ length near
  pub few : n ≤ most_cells
  pub back : (j : ℕ) → j < 4 * n → 0 < get_or near j 0 → (get_or near j 0 ≤ 4 * n) × (get_or near (get_or near j 0 - 1) 0 ≡ j + 1)
  pub side : (key j : ℕ) → j < 4 * n → 0 < get_or near j 0 → (s : KeySlot keys key j)
      → (t : KeySlot keys key (get_or near j 0 - 1)) × (rank t.k ((get_or near j 0 - 1) % 4) ≡ rank s.k (j % 4))
  pub one : (c k m : ℕ) → c < n → k < 6 → m < 6 → get_or keys (6 * c + k) 0 ≡ get_or keys (6 * c + m) 0 → k ≡ m

-- a test that goes on across each face that contains the edge
abbrev pub PassesAcross : List ℕ → List ℕ → ℕ → ℕ → (ℕ → Bool) → Type 0
PassesAcross keys near n key P = (j : ℕ) → j < 4 * n → KeySlot keys key j → 0 < get_or near j 0 → P (j / 4) ≡ true → P ((get_or near j 0 - 1) / 4) ≡ true

-- across each slot of a marked cell, but for slots a and b, there is no cell or a marked one
pub record Open (keys near : List ℕ) (n key mark : ℕ) (marks : List ℕ) (a b : ℕ) : Type 0 where
  pub at : (j : ℕ) → j < 4 * n → KeySlot keys key j → get_or marks (j / 4) 0 ≡ mark → j ≢ a → j ≢ b
      → (get_or near j 0 ≡ 0) ⊎ (get_or marks ((get_or near j 0 - 1) / 4) 0 ≡ mark)

-- marks₀ has become marks
pub record Grown (keys near : List ℕ) (n key mark : ℕ) (marks₀ marks : List ℕ) : Type 0 where
  pub same : length marks ≡ length marks₀
  pub keep : (c : ℕ) → get_or marks₀ c 0 ≡ mark → get_or marks c 0 ≡ mark
  pub only : (c : ℕ) → (get_or marks c 0 ≡ get_or marks₀ c 0) ⊎ (get_or marks c 0 ≡ mark)
  pub within : (P : ℕ → Bool) → PassesAcross keys near n key P → ((c : ℕ) → get_or marks₀ c 0 ≡ mark → P c ≡ true)
      → (c : ℕ) → get_or marks c 0 ≡ mark → P c ≡ true

-- what `spread` starts from, and what it leaves of any edge that start and rank tell
pub record Spreadable (near : List ℕ) (n start rank : ℕ) (marks : List ℕ) : Type 0 where
  pub near_room : 4 * n ≤ length near
  pub few : n ≤ most_cells
  pub within : (j : ℕ) → j < 4 * n → get_or near j 0 ≤ 4 * n
  pub room : n ≤ length marks
  pub slot : start < 4 * n
  pub rank_lt : rank < 3

pub record Spreading (keys near : List ℕ) (n key mark start r b : ℕ) (marks : List ℕ) : Type 0 where
  pub paired : Paired keys near n
  pub side : KeySlot keys key start
  pub rank_is : r ≡ rank side.k (start % 4)
  pub here : get_or marks (start / 4) 0 ≡ mark
  pub opens : Open keys near n key mark marks start b

pub record Spread (keys near : List ℕ) (n key mark b : ℕ) (marks₀ marks : List ℕ) : Type 0 where
  pub grown : Grown keys near n key mark marks₀ marks
  pub opens : Open keys near n key mark marks b b

-- how many of n cells have the mark
unfoldable pub marked_cells : List ℕ → ℕ → ℕ → ℕ
marked_cells marks mark n = count (λ c. eqb (get_or marks c 0) mark) n

-- met: how many cells got the mark
pub record Spreads (near : List ℕ) (n mark start r : ℕ) (marks₀ : List ℕ) (met : ℕ) (marks : List ℕ) : Type 0 where
  pub same : length marks ≡ length marks₀
  pub counted : marked_cells marks₀ mark n + met ≡ marked_cells marks mark n
  pub over : (keys : List ℕ) (key b : ℕ) → Spreading keys near n key mark start r b marks₀ → Spread keys near n key mark b marks₀ marks

-- place j has the key, and its cell is not marked
unfoldable pub missing : List ℕ → ℕ → List ℕ → ℕ → ℕ → Bool
missing keys key marks mark j = same_key keys key j && not (eqb (get_or marks (j / 6) 0) mark)

-- what the marks of an edge are, from cell c on: closed, and within all that is closed
pub record Reached (keys near : List ℕ) (n key mark c : ℕ) (marks₀ marks : List ℕ) : Type 0 where
  pub same : length marks ≡ length marks₀
  pub has : get_or marks c 0 ≡ mark
  pub only : (d : ℕ) → (get_or marks d 0 ≡ get_or marks₀ d 0) ⊎ (get_or marks d 0 ≡ mark)
  pub closed : (j : ℕ) → j < 4 * n → KeySlot keys key j → 0 < get_or near j 0 → get_or marks (j / 4) 0 ≡ mark
      → get_or marks ((get_or near j 0 - 1) / 4) 0 ≡ mark
  pub within : (P : ℕ → Bool) → PassesAcross keys near n key P → P c ≡ true → (d : ℕ) → get_or marks d 0 ≡ mark → P d ≡ true

-- what `split_at` starts from: no cell has the mark, and degree places have the key
pub record Splitting (keys near : List ℕ) (n key top degree : ℕ) (marks : List ℕ) : Type 0 where
  pub paired : Paired keys near n
  pub room : n ≤ length marks
  pub top_is : top ≡ last (same_key keys key) (6 * n)
  pub degree_is : degree ≡ count (same_key keys key) (6 * n)
  pub found : 0 < top
  pub fresh : (d : ℕ) → get_or marks d 0 ≢ key

-- what row 9 starts from: each edge of a cell is listed, and each edge has a cell
pub record Linkable (G : Grid) (near sides top degree marks : List ℕ) : Type 0 where
  pub ordered : RisingCells G.cells
  pub near_is : Neighbours G.cells near
  pub sided : Table (listed_at G) (6 * cell_count G.cells) sides
  pub full : (j : ℕ) → j < 6 * cell_count G.cells → 0 < get_or sides j 0
  pub one : OneEach G
  pub few : length G.counts ≤ 6 * cell_count G.cells
  pub T : ℕ
  pub within : length G.counts < T
  pub tallied : Tallied sides T (6 * cell_count G.cells) top degree
  pub used : (e : ℕ) → e < length G.counts → unused G e ≡ false
  pub marks_new : Fresh (cell_count G.cells) marks

-- THE WHOLE

-- what the check of n cells starts from, and what it leaves in its two tables where it accepts
pub record Blank (n : ℕ) (near sides : List ℕ) : Type 0 where
  pub near_new : Fresh (4 * n) near
  pub sides_new : Fresh (6 * n) sides

pub record Worked (G : Grid) (near sides : List ℕ) : Type 0 where
  pub near_is : Neighbours G.cells near
  pub sided : Table (listed_at G) (6 * cell_count G.cells) sides

abbrev pub WhereAccepted : Result ℕ Refusal → Type 0 → Type 0
WhereAccepted (Ok n) T = T
WhereAccepted (Err refusal) T = Unit {0}

-- the answer of the rows from number n on
unfoldable pub answer_from : ℕ → Grid → List ℕ
answer_from n G = answer_of (since n (rows G)) (result_of (crossings G.counts ∷ []))

-- what `early_rows` answers and leaves: the refusal of row 4 or 5; else neither refuses, and near has the neighbours
abbrev pub Early : Grid → List ℕ → Result Unit Refusal → Type 0
Early G near (Ok t) = (answer_from 6 G ≡ answer_from 4 G) × Neighbours G.cells near
Early G near (Err r) = refusal_numbers r ≡ answer_from 4 G

-- the answer of all rows, with this verdict for row 2
unfoldable pub answer_with : Bool → Grid → List ℕ
answer_with wrong G = answer_of (whole 1 (bad_length G.cells) ∷ whole 2 wrong ∷ since 3 (rows G)) (result_of (crossings G.counts ∷ []))

-- what row 3 and those after it start from
pub record Celling (G : Grid) (near sides : List ℕ) : Type 0 where
  pub few : cell_count G.cells ≤ most_cells
  pub pairs : length G.edges ≡ 2 * length G.counts
  pub blank : Blank (cell_count G.cells) near sides

-- what row 4 and those after it start from, but for the tables
pub record Numbering (G : Grid) (near sides : List ℕ) : Type 0 where
  pub ordered : RisingCells G.cells
  pub pairs : length G.edges ≡ 2 * length G.counts
  pub blank : Blank (cell_count G.cells) near sides

-- the tables of n cells' edges, which are new
pub record NewEdgeTables (n : ℕ) (tab top degree marks : List ℕ) : Type 0 where
  pub tab_new : Fresh (highest_node + 1) tab
  pub top_new : Fresh (6 * n + 2) top
  pub degree_new : Fresh (6 * n + 2) degree
  pub long : length top ≤ length degree
  pub marks_new : Fresh n marks

-- what row 6 and those after it start from
pub record Edging (G : Grid) (near ranks h0 x0 h1 x1 h2 x2 tab top degree marks sides : List ℕ) : Type 0 where
  pub ordered : RisingCells G.cells
  pub pairs : length G.edges ≡ 2 * length G.counts
  pub near_is : Neighbours G.cells near
  pub chained : NodeChains G.cells ranks h0 x0 h1 x1 h2 x2
  pub tables : NewEdgeTables (cell_count G.cells) tab top degree marks
  pub sides_new : Fresh (6 * cell_count G.cells) sides

-- what row 7 and those after it start from: besides, the edges are sorted
pub record Siding (G : Grid) (near ranks h0 x0 h1 x1 h2 x2 tab top degree marks sides : List ℕ) : Type 0 where
  pub edging : Edging G near ranks h0 x0 h1 x1 h2 x2 tab top degree marks sides
  pub fine : (e : ℕ) → e < length G.counts → bad_edge G.edges e ≡ false

-- what row 8 and those after it start from: the cells' edges have their places, and these are counted
pub record Using (G : Grid) (near sides top degree marks : List ℕ) : Type 0 where
  pub ordered : RisingCells G.cells
  pub near_is : Neighbours G.cells near
  pub room : 6 * cell_count G.cells ≤ length sides
  pub placed : SidesPlaced G.cells G.edges (length G.counts) sides
  pub full : (j : ℕ) → j < 6 * cell_count G.cells → 0 < get_or sides j 0
  pub one : OneEach G
  pub T : ℕ
  pub within : 6 * cell_count G.cells < T
  pub tallied : Tallied sides T (6 * cell_count G.cells) top degree
  pub marks_new : Fresh (cell_count G.cells) marks

-- TABLES: what the writers of the lent tables start from

-- the lower of j and of the number that x is one more than; j where x is 0
abbrev pub lower_place : ℕ → ℕ → ℕ
lower_place j x = pick (eqb x 0) j (pick (ltb (x - 1) j) (x - 1) j)

pub record Copying (n : ℕ) (across table : List ℕ) : Type 0 where
  pub few : n ≤ most_slots
  pub across_room : n ≤ length across
  pub room : n ≤ length table

pub record Lowering (n : ℕ) (listed table : List ℕ) : Type 0 where
  pub few : n ≤ most_edges
  pub listed_room : n ≤ length listed
  pub room : n ≤ length table
  pub entries : (j : ℕ) → j < n → 1 ≤ get_or listed j 0

-- the starts of the edges before one are there, and s is its own
pub record Starting (counts : List ℕ) (from s : ℕ) (starts : List ℕ) : Type 0 where
  pub room : length counts ≤ length starts
  pub few : crossings counts ≤ most_crossings
  pub within : from ≤ length counts
  pub own : s ≡ start counts from
  pub before : (e : ℕ) → e < from → get_or starts e 0 ≡ start counts e

-- SETTINGS: what `change` starts from, the counts and starts of an accepted grid with n crossings, and what it leaves

pub record Changeable (counts starts : List ℕ) (n : ℕ) : Type 0 where
  pub long : length starts ≡ length counts
  pub starts_are : (e : ℕ) → e < length counts → get_or starts e 0 ≡ start counts e
  pub few : crossings counts ≤ most_crossings
  pub all : n ≡ crossings counts

pub record Changed (counts₀ starts₀ : List ℕ) (edge count : ℕ) (counts starts answer : List ℕ) : Type 0 where
  pub answered : answer ≡ change_answer counts₀ edge count
  pub counts_are : counts ≡ pick (is_result answer) (set counts₀ edge count) counts₀
  pub starts_are : starts ≡ pick (is_result answer) (starts_of (set counts₀ edge count)) starts₀
