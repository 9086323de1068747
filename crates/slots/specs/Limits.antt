-- The limit of a count, which grids and cells share.
use Rattle.std.specs.Prelude.{ℕ, ◌*◌}

-- the greatest count of an edge (02, W1)
abbrev pub most_count : ℕ
most_count = 4095

-- the highest node, and the most cells and crossings that a grid may have.
abbrev pub highest_node : ℕ
highest_node = 4095

abbrev pub most_cells : ℕ
most_cells = 2048

abbrev pub most_crossings : ℕ
most_crossings = 65535

-- so many slots the cells have at most, and so many edges
abbrev pub most_slots : ℕ
most_slots = 4 * most_cells
