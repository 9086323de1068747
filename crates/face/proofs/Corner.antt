-- The corner count, rule by rule.
use Prim.Native.Nat.{ℕ, ◌+◌, ◌-◌, ◌/◌, ◌%◌, ◌<◌, ◌≤◌}
use mathlib.Core.Path.{◌≡◌, refl}
use mathlib.Core.Bool.{Bool, true, false}
use mathlib.Core.List.{[], ◌∷◌}
use mathlib.Core.Logic.{◌⊎◌, inl, inr}
use native.Mathlib.Omega.{arith}
use native.Mathlib.Decide.{dec_lt}
use lib.Dec.{eqb}
use borrow.Author.Tests.{lt-ltb, le-ltb, eqb-false}
use Rattle.counting.specs.Pick.{pick}
use Rattle.face.specs.Face.{half_above, corner_count}
use Rattle.face.specs.work.Corners.{corners}

module _ (p q o : ℕ) where
  pub corner_first : q + o < p → corner_count p q o ≡ q
  unfolding corner_count
  corner_first h = simp (lt-ltb (q + o) p h)

  pub corner_second : p + o < q → corner_count p q o ≡ p
  unfolding corner_count
  corner_second h = simp (le-ltb (q + o) p (omega arith), lt-ltb (p + o) q h)

  pub corner_none : p + q < o → corner_count p q o ≡ 0
  unfolding corner_count
  corner_none h = simp (le-ltb (q + o) p (omega arith), le-ltb (p + o) q (omega arith), lt-ltb (p + q) o h)

  halves : (b : Bool) → eqb ((p + q + o) % 2) 0 ≡ b → p ≤ q + o → q ≤ p + o → o ≤ p + q →
      pick b (half_above p q o) (half_above (p - 1) (q - 1) (o - 1)) ≡ (p + q - o) / 2
  unfolding half_above
  halves true e h k l = refl
  halves false e h k l = let odd = eqb-false ((p + q + o) % 2) 0 e in omega arith

  -- rules 1 and 2 at once: with an odd sum, half of the counts less 1 is the half rounded down
  pub corner_half : p ≤ q + o → q ≤ p + o → o ≤ p + q → corner_count p q o ≡ (p + q - o) / 2
  unfolding corner_count
  corner_half h k l =
      simp (le-ltb (q + o) p h, le-ltb (p + o) q k, le-ltb (p + q) o l) (halves (eqb ((p + q + o) % 2) 0) refl h k l)

-- the three corner counts of a face with one count above the other two
module _ (ab ac bc : ℕ) where
  pub corners_ab : ac + bc < ab → corners ab ac bc ≡ ac ∷ bc ∷ 0 ∷ []
  corners_ab h = simp (corner_first ab ac bc h, corner_first ab bc ac (omega arith), corner_none ac bc ab h)

  pub corners_ac : ab + bc < ac → corners ab ac bc ≡ ab ∷ 0 ∷ bc ∷ []
  corners_ac h = simp (corner_second ab ac bc h, corner_none ab bc ac h, corner_first ac bc ab (omega arith))

  pub corners_bc : ab + ac < bc → corners ab ac bc ≡ 0 ∷ ab ∷ ac ∷ []
  corners_bc h = simp (corner_none ab ac bc h, corner_second ab bc ac h, corner_second ac bc ab (omega arith))

-- which rule holds at a corner
pub data Rule (p q o : ℕ) : Type 0 where
  first : q + o < p → Rule p q o
  second : p + o < q → Rule p q o
  third : p + q < o → Rule p q o
  level : p ≤ q + o → q ≤ p + o → o ≤ p + q → Rule p q o

pub rule : (p q o : ℕ) → Rule p q o
rule p q o =
    elim (dec_lt (q + o) p) [
      | yes h ↦ first h
      | no h ↦ elim (dec_lt (p + o) q) [
        | yes k ↦ second k
        | no k ↦ elim (dec_lt (p + q) o) [
          | yes l ↦ third l
          | no l ↦ level (omega arith) (omega arith) (omega arith)
        ]
      ]
    ]

pub corner_swap : (p q o : ℕ) → corner_count p q o ≡ corner_count q p o
corner_swap p q o =
    elim (rule p q o) [
      | first h ↦ omega (arith, corner_first p q o h, corner_second q p o h)
      | second h ↦ omega (arith, corner_second p q o h, corner_first q p o h)
      | third h ↦ omega (arith, corner_none p q o h, corner_none q p o (omega arith))
      | level h k l ↦ omega (arith, corner_half p q o h k l, corner_half q p o k h (omega arith))
    ]

pub corner_le : (p q o : ℕ) → (corner_count p q o ≤ p) × (corner_count p q o ≤ q)
corner_le p q o =
    elim (rule p q o) [
      | first h ↦ omega (arith, corner_first p q o h)
      | second h ↦ omega (arith, corner_second p q o h)
      | third h ↦ omega (arith, corner_none p q o h)
      | level h k l ↦ omega (arith, corner_half p q o h k l)
    ]

-- what the two corners of an edge of x crossings leave of it: the residuals of rule 3, one crossing in rule 2, else none
module _ (x y z : ℕ) where
  pub left_long : y + z < x → (corner_count x y z ≡ y) × (corner_count x z y ≡ z)
  left_long h = (corner_first x y z h, corner_first x z y (omega arith))

  pub left_short : (x + z < y) ⊎ (x + y < z) → corner_count x y z + corner_count x z y ≡ x
  left_short (inl h) = omega (arith, corner_second x y z h, corner_none x z y (omega arith))
  left_short (inr h) = omega (arith, corner_none x y z (omega arith), corner_second x z y h)

  module _ (a : x ≤ y + z) (b : y ≤ x + z) (c : z ≤ x + y) where
    pub left_even : (x + y + z) % 2 ≡ 0 → corner_count x y z + corner_count x z y ≡ x
    left_even e = omega (arith, corner_half x y z a b c, corner_half x z y (omega arith) c b)

    pub left_odd : (x + y + z) % 2 ≡ 1 → corner_count x y z + corner_count x z y + 1 ≡ x
    left_odd e = omega (arith, corner_half x y z a b c, corner_half x z y (omega arith) c b)
