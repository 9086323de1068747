-- A grid (01): a list of cells, four nodes each; a list of edges, two nodes each; a count for each edge, and beside it its start (02, W5).
use Rattle.std.specs.Prelude.{ℕ, ◌+◌, ◌*◌, ◌/◌, ◌%◌, ◌<◌, Bool, ◌&&◌, List, ◌≡◌, ◌⊎◌, length, get_or, eqb}
use Rattle.counting.specs.Search.{first, some, every, count}
use Rattle.counting.specs.Lists.{pre, values}
use Rattle.slots.specs.Slots.{lo, hi, position, contains}

-- the four lists: four numbers to a cell, two to an edge, one to a count, one to a start
pub record Grid : Type 0 where
  pub cells : List ℕ
  pub edges : List ℕ
  pub counts : List ℕ
  pub starts : List ℕ

abbrev pub grid_of : List ℕ → List ℕ → List ℕ → List ℕ → Grid
grid_of cells edges counts starts = record { cells = cells; edges = edges; counts = counts; starts = starts }

module _ (cells : List ℕ) where
  abbrev pub cell_count : ℕ
  cell_count = length cells / 4

  -- node i of cell c
  abbrev pub node : ℕ → ℕ → ℕ
  node c i = get_or cells (4 * c + i) 0

  -- v is a node of some cell
  unfoldable pub has_node : ℕ → Bool
  has_node v = some (λ c. some (λ i. eqb (node c i) v) 4) cell_count

  -- node i, of three, of slot s (01) of cell c
  unfoldable pub face_node : ℕ → ℕ → ℕ → ℕ
  face_node c s i = node c (position s i)

  -- slot t of cell d and slot s of cell c are one face: the same three nodes. A cell's nodes increase, so they are compared in order.
  unfoldable pub same_face : ℕ → ℕ → ℕ → ℕ → Bool
  same_face d t c s = every (λ i. eqb (face_node d t i) (face_node c s i)) 3

  -- cell d has the face at slot s of cell c
  unfoldable pub has_face : ℕ → ℕ → ℕ → Bool
  has_face c s d = some (λ t. same_face d t c s) 4

  -- the name (01) of the face at slot s of cell c: 4 times the least cell that has the face, plus the slot there
  unfoldable pub face_name : ℕ → ℕ → ℕ
  face_name c s = first (λ m. same_face (m / 4) (m % 4) c s) (4 * cell_count)

-- the ends of edge e, the lower first
abbrev pub low : List ℕ → ℕ → ℕ
low edges e = get_or edges (2 * e) 0

abbrev pub high : List ℕ → ℕ → ℕ
high edges e = get_or edges (2 * e + 1) 0

-- edge e joins the nodes u and v
unfoldable pub joins : List ℕ → ℕ → ℕ → ℕ → Bool
joins edges u v e = eqb (low edges e) u && eqb (high edges e) v

module _ (G : Grid) where
  -- edge e of the list is edge k of cell c
  unfoldable pub is_edge : ℕ → ℕ → ℕ → Bool
  is_edge c k e = joins G.edges (node G.cells c (lo k)) (node G.cells c (hi k)) e

  -- cell c has edge e of the list
  unfoldable pub has_edge : ℕ → ℕ → Bool
  has_edge e c = some (λ k. is_edge c k e) 6

  -- edge e is outer (01): it belongs to a face that only one cell has
  unfoldable pub outer : ℕ → Bool
  outer e =
      some (λ c. some (λ k. is_edge c k e && some (λ s. contains k s && eqb (count (has_face G.cells c s) (cell_count G.cells)) 1) 4) 6)
      (cell_count G.cells)

  -- the place in the list of edge k of cell c
  unfoldable pub edge_number : ℕ → ℕ → ℕ
  edge_number c k = first (is_edge c k) (length G.counts)

module _ (counts : List ℕ) where
  -- the count of edge e
  abbrev pub count_of : ℕ → ℕ
  count_of e = get_or counts e 0

  -- the sum of the counts of all edges before e
  unfoldable pub start : ℕ → ℕ
  start e = pre count_of e

  -- the number of the crossing of edge e with index i (01)
  abbrev pub crossing : ℕ → ℕ → ℕ
  crossing e i = start e + i

  -- the number of crossings
  abbrev pub crossings : ℕ
  crossings = start (length counts)

  -- the starts of all edges
  unfoldable pub starts_of : List ℕ
  starts_of = values start (length counts)

-- a grid built afresh with these counts: each start is the sum of the counts before its edge
abbrev pub built : List ℕ → List ℕ → List ℕ → Grid
built cells edges counts = grid_of cells edges counts (starts_of counts)

-- by the lower end and then the higher
abbrev pub Before : ℕ → ℕ → ℕ → ℕ → Type 0
Before u v w x = (u < w) ⊎ ((u ≡ w) × (v < x))
