-- A split of a cell, or of a sub-cell, into four (02, W12). The nodes of a sub-cell stand at its positions in the order of their rank: the new node a
-- at position 0, before the three nodes that it has of the cell.
use Rattle.std.specs.Prelude.{ℕ, ◌+◌, List, [], ◌∷◌, get_or}
use Rattle.counting.specs.Lists.{pre}
use Rattle.slots.specs.Slots.{lo, hi, position, slot_edge}
use Rattle.cell.specs.declared.Cell.{Cell}
use Rattle.cell.specs.Of.{count_of, start_of}
use Rattle.cell.specs.Nodes.{joining}
use Rattle.booking.specs.Booking.{least_corner, left_between}
use Rattle.split.specs.Labels.{labelled, label, spoke}

-- The counts of a sub-cell, from those of the cell, w k for its edge k.
module _ (w : ℕ → ℕ) where
  -- what remains of edge e once the corner triangles go
  abbrev pub rest_of : ℕ → ℕ
  rest_of e = left_between w (lo e) (hi e)

  -- the count of the new edge to the node at position p
  abbrev pub arm_of : ℕ → ℕ
  arm_of p = spoke w (label w p)

  -- the sub-cell that omits the node at position p: its counts, edge by edge
  abbrev pub sub_list : ℕ → List ℕ
  sub_list p = arm_of (position p 0) ∷ arm_of (position p 1) ∷ arm_of (position p 2) ∷ rest_of (slot_edge p 0) ∷ rest_of (slot_edge p 1) ∷ rest_of (slot_edge p 2) ∷ []

module _ (c : Cell) where
  unfoldable pub rest_start : ℕ → ℕ
  rest_start e = start_of c e + least_corner (count_of c) (lo e)

  -- the number of the crossing of that new edge which is next to a: the four new edges are laid end to end from b on, in the order of labels
  unfoldable pub arm_start : ℕ → ℕ → ℕ
  arm_start b p = b + pre (spoke (count_of c)) (label (count_of c) p)

  -- the name of the inner face that a makes with the edge e: six names from f on, in the order of edges by the labels of their ends
  unfoldable pub inner_name : ℕ → ℕ → ℕ
  inner_name f e = f + joining (label (count_of c) (lo e)) (label (count_of c) (hi e))

  -- the sub-cell that omits the node at position p, with its word 0. It has the face of slot p of the cell in slot 0, and in slot 3 − j the inner face
  -- with edge j of that slot. Nodes are for types of loops, of which a sub-cell is not asked
  unfoldable pub sub_at : (b f word p : ℕ) → Cell
  sub_at b f word p = record {
    counts = sub_list (count_of c) p;
    starts = arm_start b (position p 0) ∷ arm_start b (position p 1) ∷ arm_start b (position p 2)
        ∷ rest_start (slot_edge p 0) ∷ rest_start (slot_edge p 1) ∷ rest_start (slot_edge p 2) ∷ [];
    names = get_or c.names p 0 ∷ inner_name f (slot_edge p 2) ∷ inner_name f (slot_edge p 1) ∷ inner_name f (slot_edge p 0) ∷ [];
    nodes = 0 ∷ 0 ∷ 0 ∷ 0 ∷ [];
    index = word;
  }

  -- the sub-cell that omits the node with the label m
  unfoldable pub sub : (b f word m : ℕ) → Cell
  sub b f word m = sub_at b f word (labelled (count_of c) m)
