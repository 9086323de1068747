-- The common cells (02, W6): those whose six counts are 0, 1 or 2, from the counts of their edges, w k for edge k.
use Rattle.std.specs.Prelude.{ℕ, Bool, ltb}
use Rattle.counting.specs.Search.{every}

-- one more than the greatest count of a common cell: its counts are digits of this base
abbrev pub digit_limit : ℕ
digit_limit = 3

unfoldable pub is_common : (ℕ → ℕ) → Bool
is_common w = every (λ k. ltb (w k) digit_limit) 6
