-- The three edges of a face and their ends.
use Rattle.std.specs.Prelude.{ℕ}
use Rattle.slots.specs.Slots.{lower, upper}

-- e is an edge
pub data Edge : ℕ → Type 0 where
  on_ab : Edge 0
  on_ac : Edge 1
  on_bc : Edge 2

-- the node w is an end of the edge e
pub data End : ℕ → ℕ → Type 0 where
  low : {e : ℕ} → Edge e → End (lower e) e
  high : {e : ℕ} → Edge e → End (upper e) e
