-- The routes of a cell: nine numbers to each half-edge, from which a step over it is found. They are worked out once a cell.
use Rattle.std.specs.Prelude.{ℕ, ◌-◌, ◌<◌, min, ◌+◌, ◌*◌, ◌≤◌, ◌≡◌, List, [], ◌∷◌, get_or}
use Rattle.std.proofs.lemmas.List.Edits.{sets}
use Rattle.counting.specs.Lists.{values}
use Rattle.cell.specs.declared.Cell.{Cell}
use Rattle.cell.specs.work.Limits.{start_limit, most_in_cell}
use Rattle.cell.specs.Of.{start_of, count_of, edges_of}
use Rattle.slots.specs.Slots.{slot_edge, lower, upper}
use Rattle.face.specs.Face.{corner_count_at}
use Rattle.cell.specs.declared.Run.{Run}
use Rattle.cell.specs.Cell.{Edges, base, crossings}
use Rattle.cell.specs.work.Half.{half_edges, twin, around}
use Rattle.cell.specs.claims.Half.{half_slot, rank_of, edge_of}

-- A cell by value can list any 32 bits for a start. The calls on such a cell take a start above the limit as the limit; no cell of an accepted grid and
-- no sub-cell has one
unfoldable pub limited : Cell → Cell
limited c = record {
  counts = c.counts;
  starts = values (λ e. min (start_of c e) (start_limit - 1)) 6;
  names = c.names;
  nodes = c.nodes;
  index = c.index;
}

abbrev pub Near : Cell → Type 0
Near c = (e : ℕ) → e < 6 → start_of c e < start_limit

-- the columns of the routes: the corner counts at the lower and the upper end of the half-edge's edge; the edge's count, its first number in the cell
-- and in the grid; the half-edges that follow round the lower end, round the upper end, and after a folded segment; its rank in the slot
abbrev pub columns : ℕ
columns = 9

abbrev pub low_column : ℕ
low_column = 0

abbrev pub high_column : ℕ
high_column = 1

abbrev pub count_column : ℕ
count_column = 2

abbrev pub first_column : ℕ
first_column = 3

abbrev pub start_column : ℕ
start_column = 4

abbrev pub round_low_column : ℕ
round_low_column = 5

abbrev pub round_high_column : ℕ
round_high_column = 6

abbrev pub twin_column : ℕ
twin_column = 7

abbrev pub rank_column : ℕ
rank_column = 8

-- the corner count at the node v of the slot, on half-edge h
unfoldable pub half_corner : Edges → ℕ → ℕ → ℕ
half_corner w v h = corner_count_at (w.count (slot_edge (half_slot h) 0)) (w.count (slot_edge (half_slot h) 1)) (w.count (slot_edge (half_slot h) 2)) v (rank_of h)

module _ (w : Edges) where
  -- the corner counts at the lower and the upper end; the edge's count, its first number in the cell and in the grid
  unfoldable pub front : ℕ → List ℕ
  front h = half_corner w (lower (rank_of h)) h ∷ half_corner w (upper (rank_of h)) h ∷ w.count (edge_of h) ∷ base w (edge_of h) ∷ w.start (edge_of h) ∷ []

  -- t with these numbers for the three half-edges of slot s
  unfoldable pub fronts : ℕ → List ℕ → List ℕ
  fronts s t = sets (sets (sets t (columns * (3 * s)) (front (3 * s))) (columns * (3 * s + 1)) (front (3 * s + 1))) (columns * (3 * s + 2)) (front (3 * s + 2))

-- the half-edges that follow round the lower end, round the upper end, and after a folded segment; its rank in the slot
unfoldable pub links : ℕ → List ℕ
links h = around (lower (rank_of h)) h ∷ around (upper (rank_of h)) h ∷ twin h ∷ rank_of h ∷ []

-- the numbers of crossings laid before each edge
abbrev pub Firsts : Cell → List ℕ → Type 0
Firsts c f = (k : ℕ) → k < 6 → get_or f k 0 ≡ base (edges_of c) k

-- x is the run of edge e
pub record IsRun (c : Cell) (e : ℕ) (x : Run) : Type 0 where
  pub count_is : x.count ≡ count_of c e
  pub first_is : x.first ≡ base (edges_of c) e
  pub start_is : x.start ≡ start_of c e
  pub near : x.start < start_limit

-- the runs of the three edges of slot s
pub record SlotRuns (c : Cell) (s : ℕ) (ab ac bc : Run) : Type 0 where
  pub of_ab : IsRun c (slot_edge s 0) ab
  pub of_ac : IsRun c (slot_edge s 1) ac
  pub of_bc : IsRun c (slot_edge s 2) bc

-- t has the routes of the cell: five numbers and four to each half-edge
pub record Routed (c : Cell) (t : List ℕ) : Type 0 where
  pub counted : (h i : ℕ) → h < half_edges → i < 5 → get_or t (columns * h + i) 0 ≡ get_or (front (edges_of c) h) i 0
  pub linked : (h i : ℕ) → h < half_edges → i < 4 → get_or t (columns * h + (round_low_column + i)) 0 ≡ get_or (links h) i 0
  pub few : crossings (edges_of c) ≤ most_in_cell
  pub near : Near c
