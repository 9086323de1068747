-- Where the numbers and the names in a split cell start (02, W12).
use Rattle.std.specs.Prelude.{ℕ, ◌+◌}
use Rattle.slots.specs.Limits.{most_cells, most_crossings, most_slots}

-- inner crossings are numbered from 65,536 on, after every crossing number of a grid
abbrev pub first_inner_crossing : ℕ
first_inner_crossing = most_crossings + 1

-- inner faces are named from 8,192 on, after every face name of a grid
abbrev pub first_inner_face : ℕ
first_inner_face = most_slots

-- word 0 of a sub-cell is the number of its cell and 2,048 times its own number
abbrev pub word_step : ℕ
word_step = most_cells
