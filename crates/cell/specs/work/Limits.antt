-- Limits of a cell.
use Rattle.std.specs.Prelude.{ℕ, ◌*◌}
use Rattle.slots.specs.Limits.{most_count}

-- the most crossings that a cell can have
abbrev pub most_in_cell : ℕ
most_in_cell = 6 * most_count

-- up to this count the arrays of the walks have so many places; no answer depends on it
abbrev pub few_count : ℕ
few_count = 255

abbrev pub few_in_cell : ℕ
few_in_cell = 6 * few_count

-- one more than the greatest number that a start can have, in a cell of a grid and in a sub-cell (02, W12)
abbrev pub start_limit : ℕ
start_limit = 67108864

-- one more than the greatest number of 32 bits
abbrev pub long_limit : ℕ
long_limit = 4294967296

-- the most that two numbers of 16 bits add up to
abbrev pub most_sum : ℕ
most_sum = 131070
