-- A search that tells whether it finds.
use Rattle.std.specs.Prelude.{ℕ, Bool, Option, Some, None, ltb}
use Rattle.counting.specs.Pick.{pick}
use Rattle.counting.specs.Search.{first}

-- the least number below n that passes, where one does
unfoldable pub found : (ℕ → Bool) → ℕ → Option ℕ
found t n = pick (ltb (first t n) n) (Some (first t n)) None
