-- A list filled from the front, and a list with values stored where they have room.
use Rattle.std.specs.Prelude.{ℕ, ◌+◌, List, leb, length}
use Rattle.std.proofs.lemmas.List.Edits.{sets}
use Rattle.counting.specs.Pick.{pick}
use Rattle.counting.specs.Lists.{values}

-- the list l with its first n entries set to f 0, f 1, ..
unfoldable pub filled : {A : Type 0} → (ℕ → A) → ℕ → List A → List A
filled f n l = sets l 0 (values f n)

module _ {A : Type 0} (was : List A) (at : ℕ) (vs : List A) where
  -- the list with the values stored from the place `at` on, where they have room there; else as it was
  unfoldable pub stored_in : List A
  stored_in = pick (leb (at + length vs) (length was)) (sets was at vs) was
