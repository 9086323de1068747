-- The most bytes of a word, of the head and of a line.
use Rattle.std.specs.Prelude.{ℕ, ◌+◌, ◌*◌}
use Rattle.cell.specs.Words.{word_count}

-- the most digits of a number of 64 bits
abbrev pub longest : ℕ
longest = 20

-- the most bytes of a word of 32 bits and the blank before it; of the first line, with 35 of labels; and of a triangle's line
abbrev pub word_room : ℕ
word_room = 11

abbrev pub head_room : ℕ
head_room = 35 + 4 * longest + 1

abbrev pub line_room : ℕ
line_room = 1 + word_count * word_room + 1
