use Prim.Native.Nat.{ℕ, ◌+◌, ◌-◌, ◌/◌, ◌%◌, ◌≤◌}
use mathlib.Core.Path.{◌≡◌, sym, ◌∙◌}
use mathlib.Core.List.{[], ◌∷◌}
use native.Mathlib.Omega.{arith}
use Rattle.face.specs.work.Corners.{corners}
use Rattle.face.proofs.Corner.{corner_half, corners_ab, corners_ac, corners_bc}
use Rattle.face.proofs.corners_of.Goals as goal

-- no count above the other two
level : (x y z a b c : ℕ) → x ≤ y + z → y ≤ x + z → z ≤ x + y → a ≡ (x + y - z) / 2 → b ≡ (x + z - y) / 2 → c ≡ (y + z - x) / 2 → corners x y z ≡ a ∷ b ∷ c ∷ []
level x y z a b c h k l p q r =
    simp (corner_half x y z h k l ∙ sym p, corner_half x z y (omega arith) l k ∙ sym q, corner_half y z x (omega arith) (omega arith) h ∙ sym r)

-- the half of the lessened counts, and what it leaves of two of them
module _ (x y z : ℕ) (h : x ≤ y + z) (k : y ≤ x + z) (l : z ≤ x + y) where
  half_a : (x - (x + y + z) % 2 + y - z) / 2 ≡ (x + y - z) / 2
  half_a = omega arith

  half_b : x - (x + y + z) % 2 - (x + y - z) / 2 ≡ (x + z - y) / 2
  half_b = omega arith

  half_c : y - (x + y + z) % 2 - (x + y - z) / 2 ≡ (y + z - x) / 2
  half_c = omega arith

pub returns-then-y-z : goal.returns-then-y-z
returns-then-y-z c = sym (corners_ab _ _ _ c.if-y-z.true)

pub returns-then-x-z : goal.returns-then-x-z
returns-then-x-z c = sym (corners_ac _ _ _ c.if-x-z.true)

pub returns-then-x-y : goal.returns-then-x-y
returns-then-x-y c = sym (corners_bc _ _ _ c.if-x-y.true)

pub returns : goal.returns
returns c = let ab = c.if-y-z.false in
    let ac = c.if-x-z.false in
    let bc = c.if-x-y.false in
    sym (level _ _ _ _ _ _ ab ac bc (half_a _ _ _ ab ac bc) (rw (half_a _ _ _ ab ac bc) (half_b _ _ _ ab ac bc)) (rw (half_a _ _ _ ab ac bc) (half_c _ _ _ ab ac bc)))
