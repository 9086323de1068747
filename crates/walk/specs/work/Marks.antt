-- Marks at crossings: each is the start of a walk that came there.
use Rattle.std.specs.Prelude.{ℕ, ◌*◌, ◌≤◌, ◌<◌, ◌≡◌, List, get_or, length}
use Rattle.counting.specs.Lists.{it}
use Rattle.walk.specs.Darts.{half, Live}

-- the curve from q comes to the crossing x after i steps
pub record Passed (N : ℕ) (s : ℕ → ℕ) (q i x : ℕ) : Type 0 where
  pub start : q < N
  pub live : Live (2 * N) s (2 * q) i
  pub is : half (it s i (2 * q)) ≡ x

-- a mark below N at x is the start of a curve that comes to x
pub record Marks (N : ℕ) (s : ℕ → ℕ) (m : List ℕ) : Type 0 where
  pub long : N ≤ length m
  pub by : (x : ℕ) → x < N → get_or m x 0 < N → (i : ℕ) × Passed N s (get_or m x 0) i x
