-- The half-edges of a cell: edge j, ab ac bc, of slot s is half-edge 3 * s + j. An edge has two, one in each of its slots.
use Rattle.std.specs.Prelude.{ℕ, ◌/◌, ◌%◌, ◌+◌, ◌*◌, not, eqb}
use Rattle.slots.specs.Slots.{slot_edge, first_slot}
use Rattle.counting.specs.Lists.{one}

-- the slot of half-edge h, which of the slot's edges it is, and the edge of the cell
abbrev pub half_slot : ℕ → ℕ
half_slot h = h / 3

abbrev pub rank_of : ℕ → ℕ
rank_of h = h % 3

unfoldable pub edge_of : ℕ → ℕ
unfolding slot_edge
edge_of h = slot_edge (half_slot h) (rank_of h)

-- the number of the dart that leaves crossing x by half-edge h: the first dart of x if that is by the edge's first slot, else the second
unfoldable pub dart_number : ℕ → ℕ → ℕ
unfolding edge_of
dart_number h x = 2 * x + one (not (eqb (first_slot (edge_of h)) (half_slot h)))
