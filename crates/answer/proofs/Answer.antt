-- An answer is not empty.
use Prim.Native.Nat.{ℕ}
use mathlib.Core.Path.{◌≡◌}
use mathlib.Core.Bool.{Bool, true, false}
use mathlib.Core.List.{List, [], ◌∷◌}
use native.Mathlib.Omega.{arith}
use Rattle.counting.specs.Pick.{pick}

-- results and refusals are not empty, nor is what is one or the other
pub no_nil : {a : ℕ} {l : List ℕ} → [] ≡ a ∷ l → ⊥
no_nil q = let z : ◌≡◌ {A = ℕ} 0 1 = cc in omega arith

pub pick_some : (b : Bool) (x y : List ℕ) → ([] ≡ x → ⊥) → ([] ≡ y → ⊥) → [] ≡ pick b x y → ⊥
pick_some true x y f g q = f q
pick_some false x y f g q = g q
