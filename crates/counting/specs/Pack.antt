-- Numbers of rows laid end to end: row r has w r places, and place i of row r has the number `pre w r + i`.
use Rattle.std.specs.Prelude.{ℕ, suc, ◌-◌, ltb}
use Rattle.counting.specs.Search.{first}
use Rattle.counting.specs.Lists.{pre}

module _ (w : ℕ → ℕ) where
  -- the row of number x, of m rows: the first that ends after it
  unfoldable pub row : ℕ → ℕ → ℕ
  row m x = first (λ r. ltb x (pre w (suc r))) m

  -- its place in that row
  unfoldable pub col : ℕ → ℕ → ℕ
  col m x = x - pre w (row m x)
