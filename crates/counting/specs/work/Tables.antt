-- A list's front as a function's values, and the places of a key in a list.
use Rattle.std.specs.Prelude.{ℕ, ◌≤◌, ◌<◌, ◌≡◌, Bool, List, eqb, length, get_or}

-- the first n entries of a list are f's values
pub record Table (f : ℕ → ℕ) (n : ℕ) (l : List ℕ) : Type 0 where
  pub room : n ≤ length l
  pub at : (i : ℕ) → i < n → get_or l i 0 ≡ f i

-- place x has the key
unfoldable pub same_key : List ℕ → ℕ → ℕ → Bool
same_key keys key x = eqb (get_or keys x 0) key
