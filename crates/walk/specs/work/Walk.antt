-- The loops as lists of their darts.
use Rattle.std.specs.Prelude.{ℕ, List, [], ◌∷◌}
use Rattle.counting.specs.Lists.{over}
use Rattle.walk.specs.Walk.{loop_at}

-- a list alone, if it is not empty
unfoldable pub non_empty : List ℕ → List (List ℕ)
non_empty [] = []
non_empty (x ∷ l) = (x ∷ l) ∷ []

-- the loops, by least crossing
unfoldable pub loops : ℕ → (ℕ → ℕ) → List (List ℕ)
unfolding non_empty loop_at over
loops N s = over (λ p. non_empty (loop_at N s p)) N 0
