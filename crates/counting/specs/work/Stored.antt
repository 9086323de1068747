-- How far a loop has come that stores values or lists one after the other, or sums.
use Rattle.std.specs.Prelude.{ℕ, ◌+◌, ◌*◌, ◌≤◌, List, [], ◌∷◌, ◌≡◌, length}
use Rattle.std.proofs.lemmas.List.Edits.{sets}
use Rattle.counting.specs.Lists.{total}

module _ {A : Type 0} where
  -- the sum of h over the entries
  unfoldable pub weigh : (A → ℕ) → List A → ℕ
  weigh h [] = 0
  weigh h (x ∷ l) = h x + weigh h l

-- the values `vs`, stored over `was` from the place `at` on, make it `is`; `next` is the place after them
pub record Stored {A : Type 0} (was : List A) (at : ℕ) (vs is : List A) (next : ℕ) : Type 0 where
  pub area : is ≡ sets was at vs
  pub after : next ≡ at + length vs

-- t is the sum of the first n values of g, none of which is above `most`
pub record Summed (g : ℕ → ℕ) (most n t : ℕ) : Type 0 where
  pub is : t ≡ total g n 0
  pub few : t ≤ most * n
