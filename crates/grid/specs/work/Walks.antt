-- Cells chained by a label, from the last one down; and what a walk along a chain numbers.
use Rattle.std.specs.Prelude.{ℕ, ◌+◌, ◌*◌, ◌/◌, ◌%◌, ◌≤◌, ◌<◌, ◌≡◌, Bool, List, eqb, length, get_or}
use Rattle.counting.specs.Search.{last}
use Rattle.counting.specs.work.Tables.{Table}
use Rattle.slots.specs.Limits.{highest_node, most_cells}
use Rattle.slots.specs.Slots.{position}
use Rattle.grid.specs.work.Numbered.{Ready, Does, Told, Has}

-- cell c has the label r
unfoldable pub labelled : (ℕ → ℕ) → ℕ → ℕ → Bool
labelled f r c = eqb (f c) r

-- head has one more than the last of n cells with each label below T, next one more than the last one before each cell with the cell's label; 0 for none
pub record Linked (f : ℕ → ℕ) (T n : ℕ) (head next : List ℕ) : Type 0 where
  pub heads : Table (λ r. last (labelled f r) n) T head
  pub nexts : Table (λ c. last (labelled f (f c)) c) n next

-- the label at position i of cell c
abbrev pub label_at : List ℕ → ℕ → ℕ → ℕ
label_at labels i c = get_or labels (4 * c + i) 0

-- what `link` starts from
pub record Linkable (labels : List ℕ) (i n : ℕ) (head next : List ℕ) : Type 0 where
  pub blank : (r : ℕ) → get_or head r 0 ≡ 0
  pub below : (c : ℕ) → c < n → label_at labels i c < length head
  pub four : i < 4
  pub keyed : 4 * n ≤ length labels
  pub room : n ≤ length next
  pub small : n < 65535

-- item j is one of the slots from a up to b of cell c
pub record InSlots (c a b j : ℕ) : Type 0 where
  pub cell : j / 4 ≡ c
  pub low : a ≤ j % 4
  pub high : j % 4 < b

-- item j is one of the slots from a up to b of one of the cells from m up to n with the label r
pub record Along (f : ℕ → ℕ) (r m n a b j : ℕ) : Type 0 where
  pub label : f (j / 4) ≡ r
  pub from : m ≤ j / 4
  pub to : j / 4 < n
  pub low : a ≤ j % 4
  pub high : j % 4 < b

pub record Walkable (head next : List ℕ) (r a b : ℕ) (keys : List ℕ) (base ids : ℕ) (at out : List ℕ) : Type 0 where
  pub f : ℕ → ℕ
  pub T : ℕ
  pub n : ℕ
  pub linked : Linked f T n head next
  pub within : r < T
  pub ordered : a ≤ b
  pub slots : b ≤ 4
  pub ready : Ready (Along f r 0 n a b) keys base ids at out

pub record Walks (head next : List ℕ) (r a b : ℕ) (keys : List ℕ) (base ids₀ : ℕ) (at₀ out₀ : List ℕ) (ids : ℕ) (at out : List ℕ) : Type 0 where
  pub over : (f : ℕ → ℕ) (T n : ℕ) → Linked f T n head next → r < T → Does (Along f r 0 n a b) keys base ids₀ at₀ out₀ ids at out
  pub at_long : length at ≡ length at₀
  pub out_long : length out ≡ length out₀

-- THE PASS over all labels below `many`: at each its turn, along chain a with the slots from a up to b, and then chain b with those from p up to q.
-- f and g are the labels by which the cells are chained, low the lowest node of an item
pub record Course (f g low : ℕ → ℕ) (T n : ℕ) (ha na : List ℕ) (a b : ℕ) (hb nb : List ℕ) (p q : ℕ) (keys : List ℕ) (many : ℕ) (at out : List ℕ) : Type 0 where
  pub linked_a : Linked f T n ha na
  pub linked_b : Linked g T n hb nb
  pub within : many ≤ T
  pub ordered_a : a ≤ b
  pub ordered_b : p ≤ q
  pub apart : q ≤ a
  pub slots : b ≤ 4
  pub low_a : (j : ℕ) → a ≤ j % 4 → j % 4 < b → low j ≡ f (j / 4)
  pub low_b : (j : ℕ) → p ≤ j % 4 → j % 4 < q → low j ≡ g (j / 4)
  pub small : 4 * n < 65535
  pub keyed : 4 * n ≤ length keys
  pub room : 4 * n ≤ length out
  pub known : (j : ℕ) → j < 4 * n → get_or keys j 0 < length at
  pub at_blank : (k : ℕ) → get_or at k 0 ≡ 0
  pub out_blank : (j : ℕ) → get_or out j 0 ≡ 0

pub record Passable (ha na : List ℕ) (a b : ℕ) (hb nb : List ℕ) (p q : ℕ) (keys : List ℕ) (many : ℕ) (at out : List ℕ) : Type 0 where
  pub f : ℕ → ℕ
  pub g : ℕ → ℕ
  pub low : ℕ → ℕ
  pub T : ℕ
  pub n : ℕ
  pub course : Course f g low T n ha na a b hb nb p q keys many at out

-- what it leaves: each item of a label below `many` has its number, from 1 to ids, and the law holds
pub record Coursed (f g low : ℕ → ℕ) (n a b p q : ℕ) (keys : List ℕ) (many ids : ℕ) (out : List ℕ) : Type 0 where
  pub told : Told low keys out
  pub few : (j : ℕ) → get_or out j 0 ≤ ids
  pub bound : ids ≤ 4 * n
  pub done_a : (j : ℕ) → j / 4 < n → f (j / 4) < many → a ≤ j % 4 → j % 4 < b → Has out j
  pub done_b : (j : ℕ) → j / 4 < n → g (j / 4) < many → p ≤ j % 4 → j % 4 < q → Has out j

pub record Passed (ha na : List ℕ) (a b : ℕ) (hb nb : List ℕ) (p q : ℕ) (keys : List ℕ) (many : ℕ) (at₀ out₀ : List ℕ) (ids : ℕ) (out : List ℕ) : Type 0 where
  pub over : (f g low : ℕ → ℕ) (T n : ℕ) → Course f g low T n ha na a b hb nb p q keys many at₀ out₀ → Coursed f g low n a b p q keys many ids out
  pub out_long : length out ≡ length out₀

-- NODES: labels are the numbers of the nodes, by the node alone

-- f tells R: of n items, the values are equal exactly where R holds
pub record Tells (n : ℕ) (R : ℕ → ℕ → Type 0) (f : ℕ → ℕ) : Type 0 where
  pub same : (i j : ℕ) → i < n → j < n → R i j → f i ≡ f j
  pub told : (i j : ℕ) → i < n → j < n → f i ≡ f j → R i j

-- entry j of a list
abbrev pub entry : List ℕ → ℕ → ℕ
entry l j = get_or l j 0

abbrev pub SameEntry : List ℕ → ℕ → ℕ → Type 0
SameEntry l i j = get_or l i 0 ≡ get_or l j 0

pub record Labelling (cells : List ℕ) (n : ℕ) (at out : List ℕ) : Type 0 where
  pub keyed : n ≤ length cells
  pub known : (j : ℕ) → j < n → get_or cells j 0 < length at
  pub room : n ≤ length out
  pub small : n < 65535
  pub at_blank : (k : ℕ) → get_or at k 0 ≡ 0
  pub out_blank : (j : ℕ) → get_or out j 0 ≡ 0

-- what `label` leaves: the labels of the nodes, and in at the label of each node, or 0; long is the length of at
pub record Labels (cells : List ℕ) (n ids long : ℕ) (at out : List ℕ) : Type 0 where
  pub room : n ≤ length out
  pub bound : ids ≤ n
  pub few : (j : ℕ) → get_or out j 0 ≤ ids
  pub has_one : (j : ℕ) → j < n → Has out j
  pub tells : Tells n (SameEntry cells) (entry out)
  pub ranks : (j : ℕ) → j < n → get_or at (get_or cells j 0) 0 ≡ get_or out j 0
  pub once : (k l : ℕ) → 0 < get_or at k 0 → get_or at k 0 ≡ get_or at l 0 → k ≡ l
  pub top : (k : ℕ) → get_or at k 0 ≤ ids
  pub at_long : length at ≡ long

-- FACES: the node, of three, at rank r of the slot j; l has the cells' nodes or their labels
abbrev pub corner : List ℕ → ℕ → ℕ → ℕ
corner l r j = get_or l (4 * (j / 4) + position (j % 4) r) 0

-- slots i and j have the same nodes from rank m on
abbrev pub SameFrom : ℕ → List ℕ → ℕ → ℕ → Type 0
SameFrom m l i j = (r : ℕ) → m ≤ r → r < 3 → corner l r i ≡ corner l r j

-- cells c and d have the same nodes
abbrev pub SameNodes : List ℕ → ℕ → ℕ → Type 0
SameNodes l c d = (i : ℕ) → i < 4 → get_or l (4 * c + i) 0 ≡ get_or l (4 * d + i) 0

-- the number of cell c stands at its slot 0
abbrev pub cell_number : List ℕ → ℕ → ℕ
cell_number same c = get_or same (4 * c) 0

-- a new table
pub record Fresh (m : ℕ) (l : List ℕ) : Type 0 where
  pub room : m ≤ length l
  pub blank : (k : ℕ) → get_or l k 0 ≡ 0

-- what `number_pairs` starts from
pub record Pairable (labels : List ℕ) (n many : ℕ) (h1 x1 h2 x2 keys at out : List ℕ) : Type 0 where
  pub few : n ≤ most_cells
  pub keyed : 4 * n ≤ length labels
  pub below : (j : ℕ) → get_or labels j 0 < many
  pub many_le : many ≤ 4 * n + 1
  pub by1 : Linked (label_at labels 1) many n h1 x1
  pub by2 : Linked (label_at labels 2) many n h2 x2
  pub keys_room : 4 * n ≤ length keys
  pub at_new : Fresh (4 * n + 1) at
  pub out_new : Fresh (4 * n) out

-- the cells chained by their labels at the positions 0, 1 and 2
pub record LabelChains (labels : List ℕ) (n many : ℕ) (h0 x0 h1 x1 h2 x2 : List ℕ) : Type 0 where
  pub by0 : Linked (label_at labels 0) many n h0 x0
  pub by1 : Linked (label_at labels 1) many n h1 x1
  pub by2 : Linked (label_at labels 2) many n h2 x2

-- the tables of n cells for the chains
pub record ChainTables (n : ℕ) (h0 x0 h1 x1 h2 x2 : List ℕ) : Type 0 where
  pub h0_new : Fresh (4 * n + 1) h0
  pub h1_new : Fresh (4 * n + 1) h1
  pub h2_new : Fresh (4 * n + 1) h2
  pub x0_room : n ≤ length x0
  pub x1_room : n ≤ length x1
  pub x2_room : n ≤ length x2

-- what numbers of 4 n slots tell, and their bound
pub record Slots (n : ℕ) (R : ℕ → ℕ → Type 0) (out : List ℕ) : Type 0 where
  pub room : 4 * n ≤ length out
  pub has_one : (j : ℕ) → j < 4 * n → Has out j
  pub tells : Tells (4 * n) R (entry out)
  pub few : (j : ℕ) → get_or out j 0 ≤ 4 * n

pub record Cells (n : ℕ) (R : ℕ → ℕ → Type 0) (out : List ℕ) : Type 0 where
  pub room : 4 * n ≤ length out
  pub has_one : (c : ℕ) → c < n → Has out (4 * c)
  pub tells : Tells n R (cell_number out)
  pub few : (j : ℕ) → get_or out j 0 ≤ 4 * n

-- what `number_slots` starts from
pub record Slotted (labels : List ℕ) (n many : ℕ) (faces same : List ℕ) : Type 0 where
  pub few : n ≤ most_cells
  pub keyed : 4 * n ≤ length labels
  pub below : (j : ℕ) → get_or labels j 0 < many
  pub many_le : many ≤ 4 * n + 1
  pub faces_room : 4 * n ≤ length faces
  pub same_room : 4 * n ≤ length same
  pub faces_blank : (j : ℕ) → get_or faces j 0 ≡ 0
  pub same_blank : (j : ℕ) → get_or same j 0 ≡ 0

-- the cells chained by their lowest nodes: each has a label below `many`, the same exactly where the nodes are
pub record LowChains (cells : List ℕ) (many : ℕ) (h0 x0 : List ℕ) : Type 0 where
  pub f : ℕ → ℕ
  pub linked : Linked f many (length cells / 4) h0 x0
  pub below : (c : ℕ) → c < length cells / 4 → f c < many
  pub tells : Tells (length cells / 4) (λ c d. label_at cells 0 c ≡ label_at cells 0 d) f

-- what `number_cells` starts from besides: the numbers of the faces, and two tables
pub record Comparable (cells faces at same : List ℕ) : Type 0 where
  pub few : length cells / 4 ≤ most_cells
  pub told : Slots (length cells / 4) (SameFrom 0 cells) faces
  pub at_room : 4 * (length cells / 4) + 1 ≤ length at
  pub same_room : 4 * (length cells / 4) ≤ length same

-- what `number_faces` starts from: cells with nodes up to 4,095
pub record Numerable (cells labels ranks faces same : List ℕ) : Type 0 where
  pub few : length cells / 4 ≤ most_cells
  pub nodes : (j : ℕ) → j < 4 * (length cells / 4) → get_or cells j 0 ≤ highest_node
  pub labels_new : Fresh (4 * (length cells / 4)) labels
  pub ranks_new : Fresh (highest_node + 1) ranks
  pub faces_new : Fresh (4 * (length cells / 4)) faces
  pub same_new : Fresh (4 * (length cells / 4)) same
