-- The fans among the loops of a cell (01), and places by the positions of its nodes.
use Rattle.std.specs.Prelude.{ℕ, ◌/◌, Bool, List, get_or, Float}
use Rattle.slots.specs.Slots.{lo, hi}
use Rattle.place.specs.declared.Place.{Place}
use Rattle.place.specs.Place.{float_of, added, divided, place_at}
use Rattle.manifold.specs.Shape.{has_middle}
use Rattle.cell.specs.declared.Cell.{Cell}
use Rattle.cell.specs.Of.{edges_of}
use Rattle.cell.specs.Loop.{loop_size, dart, normal}
use Rattle.cell.specs.Triangles.{number_of}

-- for the places of a cell's nodes by position, half of the sum of the end places of edge e; its opposite edge is 5 - e
abbrev pub half_sum : (corner : ℕ → Place) → ℕ → Place
half_sum corner e = divided (added (corner (lo e)) (corner (hi e))) (float_of 2)

module _ (c : Cell) (p : ℕ) where
  -- the loop from the crossing p is drawn as a fan
  unfoldable pub is_fan : Bool
  is_fan = has_middle (loop_size (edges_of c) p) (normal (edges_of c) p)

  -- the crossing number of its point k
  unfoldable pub loop_point : ℕ → ℕ
  loop_point k = number_of c (dart (edges_of c) p k / 2)

-- the place of the cell's node at position k, from the listed places of nodes
abbrev pub corner_place : (nodes : List Float) → Cell → ℕ → Place
corner_place nodes c k = place_at nodes (get_or c.nodes k 0)
