-- The entries of the common cells (02, W6).
use Rattle.std.specs.Prelude.{ℕ, zero, suc, ◌+◌, ◌*◌}
use Rattle.cell.specs.Common.{digit_limit}

-- so many there are: six digits of base 3
abbrev pub entries : ℕ
entries = 729

-- the first n of the counts w k as digits, the first most significant
unfoldable pub from_digits : (ℕ → ℕ) → ℕ → ℕ
from_digits w zero = 0
from_digits w (suc n) = digit_limit * from_digits w n + w n

-- the number of a cell's entry: its six counts as digits, edge 01 first
unfoldable pub entry_of : (ℕ → ℕ) → ℕ
unfolding from_digits
entry_of w = from_digits w 6
