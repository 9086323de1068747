-- The most edges of a grid.
use Rattle.std.specs.Prelude.{ℕ, ◌*◌}
use Rattle.slots.specs.Limits.{most_cells}

abbrev pub most_edges : ℕ
most_edges = 6 * most_cells
