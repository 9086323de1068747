-- Darts. A dart is a crossing with the side to leave it by: the crossing x has the darts 2 * x and 2 * x + 1. A number that is no dart says that a
-- curve ends.
use Rattle.std.specs.Prelude.{ℕ, ◌+◌, ◌*◌, ◌-◌, ◌/◌, ◌%◌, ◌≤◌, ◌<◌, ◌≡◌, ◌≢◌, Bool, eqb}
use Rattle.counting.specs.Lists.{it}

-- a dart's crossing
abbrev pub half : ℕ → ℕ
half d = d / 2

-- the other dart of its crossing
unfoldable pub rev : ℕ → ℕ
rev d = 2 * (d / 2) + (1 - d % 2)

-- the walk from p does not end within n steps
abbrev pub Live : ℕ → (ℕ → ℕ) → ℕ → ℕ → Type 0
Live M s p n = (i : ℕ) → i ≤ n → it s i p < M

-- the walk from p is back at p after k steps, and not before
pub record Loop (M : ℕ) (s : ℕ → ℕ) (p k : ℕ) : Type 0 where
  pub pos : 0 < k
  pub live : Live M s p k
  pub home : it s k p ≡ p
  pub first : (i : ℕ) → 0 < i → i < k → it s i p ≢ p

-- the crossing x is one of the first k of the walk from p
pub record On (s cr : ℕ → ℕ) (p k x : ℕ) : Type 0 where
  pub at : ℕ
  pub at_lt : at < k
  pub is : cr (it s at p) ≡ x

-- the test for a dart of the crossing x
abbrev pub of_crossing : ℕ → ℕ → Bool
of_crossing x d = eqb (half d) x
