-- Words for rounds, lists and stored values that only statements use.
use Rattle.std.specs.Prelude.{ℕ, zero, suc, ◌-◌, ◌+◌, Bool, false, List, [], ◌∷◌, ltb, leb, length}
use Rattle.counting.specs.Pick.{pick}

-- i passes, and is below its partner p i: of each pair of partners the lower one
unfoldable pub rise : (ℕ → Bool) → (ℕ → ℕ) → ℕ → Bool
rise t p i = pick (t i) (ltb i (p i)) false

-- the place before k in a round of n
abbrev pub before : ℕ → ℕ → ℕ
before n zero = n - 1
before n (suc k) = k

module _ {A : Type 0} where
  -- each entry has the property
  unfoldable pub All : (A → Type 0) → List A → Type 0
  All P [] = Unit {0}
  All P (x ∷ l) = P x × All P l

module _ {A : Type 0} (was : List A) (at : ℕ) (vs : List A) where
  -- the place after the values, where they have room from the place `at` on; else `at`
  unfoldable pub next_in : ℕ
  next_in = pick (leb (at + length vs) (length was)) (at + length vs) at
