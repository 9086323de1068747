-- The edges of the cells get their places in the sorted list by runs of edges with one lower end: what a table by
-- the higher end has in a run, what a walk along chains of cells puts, and how far the list has been read.
use Rattle.std.specs.Prelude.{ℕ, ◌+◌, ◌*◌, ◌≤◌, ◌<◌, min, ◌≡◌, ◌≢◌, List, length, get_or}
use Rattle.counting.specs.Search.{last, count}
use Rattle.counting.specs.work.Tables.{same_key}
use Rattle.slots.specs.Slots.{lo, hi}
use Rattle.slots.specs.Limits.{highest_node, most_cells}
use Rattle.grid.specs.Grid.{cell_count, node, low, high, joins}
use Rattle.grid.specs.work.Walks.{Linked}

-- one more than the last place before e of an edge from u to v, but no more than cap + 1; 0 where there is none
abbrev pub place_below : List ℕ → ℕ → ℕ → ℕ → ℕ → ℕ
place_below edges cap u v e = min (last (joins edges u v) e) (cap + 1)

-- tab has these for the edges from u, by the higher end
pub record Tabled (edges : List ℕ) (cap u e : ℕ) (tab : List ℕ) : Type 0 where
  pub at : (v : ℕ) → v < length tab → get_or tab v 0 ≡ place_below edges cap u v e

-- the edges from a up to e have one lower end
abbrev pub OneLow : List ℕ → ℕ → ℕ → Type 0
OneLow edges a e = (d : ℕ) → a ≤ d → d < e → low edges d ≡ low edges a

-- what `fill_run` starts from, and what it leaves: the run from a up to f
pub record Fillable (edges : List ℕ) (m cap a : ℕ) (tab : List ℕ) : Type 0 where
  pub ends : 2 * m ≤ length edges
  pub from : a < m
  pub small : cap < 65535
  pub tabled : Tabled edges cap (low edges a) a tab

pub record RunFilled (edges : List ℕ) (m cap a f : ℕ) (tab₀ tab : List ℕ) : Type 0 where
  pub more : a < f
  pub within : f ≤ m
  pub run : OneLow edges a f
  pub stops : f < m → low edges f ≢ low edges a
  pub tabled : Tabled edges cap (low edges a) f tab
  pub same : length tab ≡ length tab₀

-- some edge from a up to f has the higher end v
pub record EndIn (edges : List ℕ) (a f v : ℕ) : Type 0 where
  pub e : ℕ
  pub from : a ≤ e
  pub to : e < f
  pub is : high edges e ≡ v

-- what `clear_run` starts from: only entries of the run are not 0
pub record Clearable (edges : List ℕ) (a f : ℕ) (tab : List ℕ) : Type 0 where
  pub ends : 2 * f ≤ length edges
  pub only : (v : ℕ) → 0 < get_or tab v 0 → EndIn edges a f v

abbrev pub Blanked : List ℕ → Type 0
Blanked tab = (v : ℕ) → get_or tab v 0 ≡ 0

-- from sides₀ to sides exactly the edges k of cells c in P have got what tab has for their higher ends
pub record Lays (P : ℕ → ℕ → Type 0) (cells tab sides₀ sides : List ℕ) : Type 0 where
  pub same : length sides ≡ length sides₀
  pub put : (c k : ℕ) → k < 6 → P c k → get_or sides (6 * c + k) 0 ≡ get_or tab (node cells c (hi k)) 0
  pub keep : (c k : ℕ) → k < 6 → (P c k → ⊥) → get_or sides (6 * c + k) 0 ≡ get_or sides₀ (6 * c + k) 0

-- edge k of cell d is one from a up to b of cell c
pub record InCell (c a b d k : ℕ) : Type 0 where
  pub cell : d ≡ c
  pub low : a ≤ k
  pub high : k < b

-- edge k of cell c is one from a up to b of a cell from m up to n with the label r
pub record InChain (f : ℕ → ℕ) (r m n a b c k : ℕ) : Type 0 where
  pub label : f c ≡ r
  pub from : m ≤ c
  pub to : c < n
  pub low : a ≤ k
  pub high : k < b

-- the lower end of edge k of cell c has the label r; g i has the labels at position i
pub record InTurn (g : ℕ → ℕ → ℕ) (r n c k : ℕ) : Type 0 where
  pub to : c < n
  pub label : g (lo k) c ≡ r

-- what a function starts from that puts edges of the first n cells
pub record Layable (cells : List ℕ) (n : ℕ) (tab sides : List ℕ) : Type 0 where
  pub cells-are : n ≤ cell_count cells
  pub few : n ≤ most_cells
  pub known : (c i : ℕ) → c < n → i < 4 → node cells c i < length tab
  pub room : 6 * n ≤ length sides

pub record SidesPuttable (cells : List ℕ) (c a b : ℕ) (tab sides : List ℕ) : Type 0 where
  pub n : ℕ
  pub layable : Layable cells n tab sides
  pub within : c < n
  pub ordered : a ≤ b
  pub edges : b ≤ 6

pub record SidesWalkable (cells head next : List ℕ) (r a b : ℕ) (tab sides : List ℕ) : Type 0 where
  pub f : ℕ → ℕ
  pub T : ℕ
  pub n : ℕ
  pub linked : Linked f T n head next
  pub within : r < T
  pub layable : Layable cells n tab sides
  pub ordered : a ≤ b
  pub edges : b ≤ 6

pub record SidesWalked (cells head next : List ℕ) (r a b : ℕ) (tab sides₀ sides : List ℕ) : Type 0 where
  pub over : (f : ℕ → ℕ) (T n : ℕ) → Linked f T n head next → r < T → Lays (InChain f r 0 n a b) cells tab sides₀ sides
  pub same : length sides ≡ length sides₀

-- the cells chained by their nodes at the positions 0, 1 and 2: g i has the labels at position i, and ranks the label of each node, or 0
pub record NodeChains (cells ranks h0 x0 h1 x1 h2 x2 : List ℕ) : Type 0 where
  pub g : ℕ → ℕ → ℕ
  pub T : ℕ
  pub by0 : Linked (g 0) T (cell_count cells) h0 x0
  pub by1 : Linked (g 1) T (cell_count cells) h1 x1
  pub by2 : Linked (g 2) T (cell_count cells) h2 x2
  pub ranks_room : highest_node < length ranks
  pub rank_lt : (u : ℕ) → get_or ranks u 0 < T
  pub same : (i c : ℕ) → i < 4 → c < cell_count cells → g i c ≡ get_or ranks (node cells c i) 0
  pub told : (i c u : ℕ) → i < 4 → c < cell_count cells → g i c ≡ get_or ranks u 0 → node cells c i ≡ u

-- the turn of the node u, along the three chains
pub record Turnable (cells ranks h0 x0 h1 x1 h2 x2 : List ℕ) (u : ℕ) (tab sides : List ℕ) : Type 0 where
  pub chained : NodeChains cells ranks h0 x0 h1 x1 h2 x2
  pub layable : Layable cells (cell_count cells) tab sides
  pub node_lt : u ≤ highest_node

-- edge k of cell c has the lower end u
pub record FromNode (cells : List ℕ) (u c k : ℕ) : Type 0 where
  pub to : c < cell_count cells
  pub is : node cells c (lo k) ≡ u

-- the edges of the cells have the places of the edges before e
pub record SidesPlaced (cells edges : List ℕ) (e : ℕ) (sides : List ℕ) : Type 0 where
  pub at : (c k : ℕ) → c < cell_count cells → k < 6 → get_or sides (6 * c + k) 0 ≡ place_below edges (6 * cell_count cells) (node cells c (lo k)) (node cells c (hi k)) e

-- what `place_sides` starts from
pub record SidesPlaceable (cells edges : List ℕ) (m : ℕ) (ranks h0 x0 h1 x1 h2 x2 tab sides : List ℕ) : Type 0 where
  pub chained : NodeChains cells ranks h0 x0 h1 x1 h2 x2
  pub few : cell_count cells ≤ most_cells
  pub nodes : (c i : ℕ) → c < cell_count cells → i < 4 → node cells c i ≤ highest_node
  pub ends : 2 * m ≤ length edges
  pub sorted : (d e : ℕ) → d < e → e < m → low edges d ≤ low edges e
  pub tab_room : highest_node < length tab
  pub tab_blank : Blanked tab
  pub room : 6 * cell_count cells ≤ length sides
  pub blank : Blanked sides

-- for each number below T: top has one more than the last of the first n places with it, and degree how many have it
pub record Tallied (sides : List ℕ) (T n : ℕ) (top degree : List ℕ) : Type 0 where
  pub top_room : T ≤ length top
  pub degree_room : T ≤ length degree
  pub tops : (t : ℕ) → t < T → get_or top t 0 ≡ last (same_key sides t) n
  pub degrees : (t : ℕ) → t < T → get_or degree t 0 ≡ count (same_key sides t) n

-- what `row_7` starts from
pub record Talliable (sides : List ℕ) (n : ℕ) (top degree : List ℕ) : Type 0 where
  pub keyed : n ≤ length sides
  pub small : n < 65535
  pub below : (j : ℕ) → j < n → get_or sides j 0 < length top
  pub long : length top ≤ length degree
  pub top_blank : Blanked top
  pub degree_blank : Blanked degree
