-- Numbers that pass a test: the least, the last, whether some or every one does, how many do.
use Rattle.std.specs.Prelude.{ℕ, zero, suc, ◌+◌, Bool, true, false, ◌&&◌}
use Rattle.counting.specs.Pick.{pick}
use Rattle.counting.specs.Lists.{one, seek}

module _ (t : ℕ → Bool) where
  -- the least number below n that passes; n where none does
  unfoldable pub first : ℕ → ℕ
  unfolding seek
  first n = seek t n 0

  -- one more than the greatest number below n that passes; 0 where none does
  unfoldable pub last : ℕ → ℕ
  last zero = 0
  last (suc n) = pick (t n) (suc n) (last n)

  -- some number below n passes
  unfoldable pub some : ℕ → Bool
  some zero = false
  some (suc n) = pick (t n) true (some n)

  -- every number below n passes
  unfoldable pub every : ℕ → Bool
  every zero = true
  every (suc n) = every n && t n

  -- how many numbers below n pass
  unfoldable pub count : ℕ → ℕ
  count zero = 0
  count (suc n) = count n + one (t n)
