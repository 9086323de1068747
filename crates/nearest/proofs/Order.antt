-- The order of floats that are finite and not negative is that of fractions.
use Prim.Native.Nat.{◌*◌, ◌≤◌, ◌<◌}
use mathlib.Core.Path.{◌≡◌, refl, sym, ◌∙◌}
use mathlib.Core.Logic.{inl, inr}
use mathlib.Core.Bool.{Bool, true, false, ◌&&◌, true≢false}
use native.Mathlib.Decide.{dec_lt}
use native.Mathlib.Nat.{le_of_lt, eq-or-lt_of_le}
use native.Mathlib.Omega.{arith}
use lib.Dec.{ltb, eqb}
use lib.Ieee.{Float, nan, inf, fin, up, down, lt, le, eq}
use lib.Ieee.Positive.{num, den, den_pos, through}
use borrow.Author.Tests.{ltb-true, ltb-false, lt-ltb, le-ltb, eqb-true, eq-eqb}
use Rattle.counting.proofs.Bools.{or_left, or_right}

-- finite and not negative
abbrev pub Counted : Float → Type 0
Counted nan = ⊥
Counted (inf s) = ⊥
Counted (fin s m e) = s ≡ false

lt_is : (x y : Float) → Counted x → Counted y → lt x y ≡ ltb (num x * den y) (num y * den x)
unfolding lt
lt_is nan y X Y = absurd X
lt_is (inf s) y X Y = absurd X
lt_is (fin true m e) y X Y = absurd (true≢false X)
lt_is (fin false m e) nan X Y = absurd Y
lt_is (fin false m e) (inf t) X Y = absurd Y
lt_is (fin false m e) (fin true n d) X Y = absurd (true≢false Y)
lt_is (fin false m e) (fin false n d) X Y = refl

eq_is : (x y : Float) → Counted x → Counted y → eq x y ≡ eqb (num x * den y) (num y * den x)
unfolding eq
eq_is nan y X Y = absurd X
eq_is (inf s) y X Y = absurd X
eq_is (fin true m e) y X Y = absurd (true≢false X)
eq_is (fin false m e) nan X Y = absurd Y
eq_is (fin false m e) (inf t) X Y = absurd Y
eq_is (fin false m e) (fin true n d) X Y = absurd (true≢false Y)
eq_is (fin false m e) (fin false n d) X Y = whole (eqb (m * up e * down d) (n * up d * down e))
  where
    whole : (b : Bool) → (b && true) ≡ b
    whole true = refl
    whole false = refl

module _ (x y : Float) (X : Counted x) (Y : Counted y) where
  lt_cross : lt x y ≡ true → num x * den y < num y * den x
  lt_cross h = ltb-true (num x * den y) (num y * den x) (sym (lt_is x y X Y) ∙ h)

  cross_lt : num x * den y < num y * den x → lt x y ≡ true
  cross_lt h = lt_is x y X Y ∙ lt-ltb (num x * den y) (num y * den x) h

  not_cross : lt x y ≡ false → num y * den x ≤ num x * den y
  not_cross h = ltb-false (num x * den y) (num y * den x) (sym (lt_is x y X Y) ∙ h)

  cross_not : num y * den x ≤ num x * den y → lt x y ≡ false
  cross_not h = lt_is x y X Y ∙ le-ltb (num x * den y) (num y * den x) h

  eq_cross : eq x y ≡ true → num x * den y ≡ num y * den x
  eq_cross h = eqb-true (num x * den y) (num y * den x) (sym (eq_is x y X Y) ∙ h)

  cross_eq : num x * den y ≡ num y * den x → eq x y ≡ true
  cross_eq h = eq_is x y X Y ∙ eq-eqb (num x * den y) (num y * den x) h

module _ (x y : Float) (X : Counted x) (Y : Counted y) where
  -- one that is smaller is neither greater nor equal
  pub not_greater : lt x y ≡ true → lt y x ≡ false
  not_greater h = cross_not y x Y X (le_of_lt (lt_cross x y X Y h))

  pub not_equal : lt x y ≡ true → eq y x ≡ true → ⊥
  not_equal h e = omega (arith, lt_cross x y X Y h, eq_cross y x Y X e)

  -- any two can be compared
  pub at_most : lt y x ≡ false → le x y ≡ true
  unfolding le
  at_most h = elim (eq-or-lt_of_le (not_cross y x Y X h)) [
    | inl e ↦ or_right (lt x y) (eq x y) (cross_eq x y X Y e)
    | inr l ↦ or_left (lt x y) (eq x y) (cross_lt x y X Y l)
  ]

-- none is smaller than itself
pub not_self : (x : Float) → Counted x → lt x x ≡ false
not_self x X = cross_not x x X X (omega arith)

-- what is smaller than one is smaller than each that is not smaller than that
pub smaller : (x y z : Float) → Counted x → Counted y → Counted z → lt x z ≡ true → lt y z ≡ false → lt x y ≡ true
smaller x y z X Y Z h k = elim (dec_lt (num x * den y) (num y * den x)) [
  | yes l ↦ cross_lt x y X Y l
  | no l ↦
      let back = through (num z) (num y) (num x) (den z) (den y) (den x) (den_pos y) (not_cross y z Y Z k) (omega arith) in
      absurd (omega (arith, back, lt_cross x z X Z h))
]
