-- The half-edges of a cell by slot and edge, and how a curve goes on from one to the next.
use Rattle.std.specs.Prelude.{ℕ, ◌+◌, ◌*◌, ◌/◌}
use Rattle.slots.specs.Slots.{edge_rank}
use Rattle.slots.specs.claims.Slots.{other_slot}
use Rattle.face.specs.Face.{other}
use Rattle.cell.specs.Cell.{Edges, edge, slot}
use Rattle.cell.specs.claims.Half.{half_slot, rank_of, edge_of}

abbrev pub half_edges : ℕ
half_edges = 12

-- the half-edge of edge k in slot s
unfoldable pub half_of : ℕ → ℕ → ℕ
unfolding edge_rank
half_of s k = 3 * s + edge_rank s k

-- the half-edge of the same edge in its other slot
unfoldable pub twin : ℕ → ℕ
unfolding edge_of half_of
twin h = half_of (other_slot (edge_of h) (half_slot h)) (edge_of h)

-- where a curve goes on that leaves half-edge h round the node v of its slot: over to the other edge there, and on by its other slot
unfoldable pub around : ℕ → ℕ → ℕ
unfolding twin
around v h = twin (3 * half_slot h + other v (rank_of h))

-- the half-edge by which dart d of a cell leaves
unfoldable pub half_edge : Edges → ℕ → ℕ
unfolding slot half_of
half_edge w d = half_of (slot w d) (edge w (d / 2))
