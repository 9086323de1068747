-- The greatest common divisor.
use Rattle.std.specs.Prelude.{ℕ, suc, ◌+◌, ◌-◌, ◌%◌, Bool, ◌&&◌, eqb}
use Rattle.counting.specs.Search.{last}

-- k divides n
unfoldable pub divides : ℕ → ℕ → Bool
divides k n = eqb (n % k) 0

-- the greatest number up to a + b that divides a and b
unfoldable pub gcd : ℕ → ℕ → ℕ
gcd a b = last (λ k. divides k a && divides k b) (suc (a + b)) - 1
