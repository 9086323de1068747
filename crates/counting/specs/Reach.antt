-- What a chain of links reaches, among the numbers below C.
use Prim.Native.Nat.{ℕ, zero, suc}
use Rattle.std.specs.Prelude.{Bool, ◌&&◌, ◌||◌}
use Rattle.counting.specs.Search.{some}

module _ (start : ℕ → Bool) (link : ℕ → ℕ → Bool) (C : ℕ) where
  -- c is a start, or at most n links lead to it from one
  unfoldable pub reach : ℕ → ℕ → Bool
  unfolding some
  reach zero c = start c
  reach (suc n) c = reach n c || some (λ d. reach n d && link d c) C
