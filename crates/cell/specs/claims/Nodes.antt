-- The crossings and darts of a cell by the positions of its nodes, in any order.
use Rattle.std.specs.Prelude.{ℕ, ◌+◌, ◌*◌, ◌-◌, ◌<◌, ◌≢◌, ltb}
use Rattle.counting.specs.Pick.{pick}
use Rattle.slots.specs.Slots.{edge_rank}
use Rattle.cell.specs.Cell.{Edges, number}
use Rattle.cell.specs.claims.Half.{dart_number}
use Rattle.cell.specs.Nodes.{joining, count_between}

-- a, b, c, d are the four positions
pub record Arranged (a b c d : ℕ) : Type 0 where
  pub a_lt : a < 4
  pub b_lt : b < 4
  pub c_lt : c < 4
  pub d_lt : d < 4
  pub ab : a ≢ b
  pub ac : a ≢ c
  pub ad : a ≢ d
  pub bc : b ≢ c
  pub bd : b ≢ d
  pub cd : c ≢ d

module _ (n : ℕ → ℕ) where
  -- the index of the k-th crossing from a on the edge to b (01)
  unfoldable pub kth_from : ℕ → ℕ → ℕ → ℕ
  kth_from a b k = pick (ltb a b) k (count_between n a b - 1 - k)

module _ (w : Edges) where
  -- the k-th crossing from a on that edge, and its dart by slot d
  unfoldable pub crossing_at : ℕ → ℕ → ℕ → ℕ
  crossing_at a b k = number w (joining a b) (kth_from w.count a b k)

  unfoldable pub dart_at : ℕ → ℕ → ℕ → ℕ → ℕ
  dart_at a b d k = dart_number (3 * d + edge_rank d (joining a b)) (crossing_at a b k)
