-- The triangles of a cell that is drawn, from its two numbers: split where they have a common divisor above 1, as fans where they have not.
use Prim.Native.Nat.{ℕ, ◌+◌, ◌-◌, ◌*◌, ◌≤◌, ◌<◌}
use mathlib.Core.Path.{◌≡◌, refl, sym, ap, ◌∙◌}
use mathlib.Core.Bool.{Bool, true, false, ◌&&◌}
use native.Mathlib.Nat.{mul-le-mul_left, mul-le-mul, le_of_dvd, dvd-sub}
use native.Mathlib.Omega.{arith}
use native.Mathlib.Decide.{ℕ_discrete}
use lib.Dec.{ltb}
use borrow.Author.Tests.{ne_eqb, lt-ltb, le-ltb, ltb-true}
use Rattle.counting.specs.Pick.{pick}
use Rattle.counting.specs.Gcd.{gcd}
use Rattle.counting.proofs.Bools.{and_left, and_right}
use Rattle.counting.proofs.Gcd.{gcd_both}
use Rattle.booking.specs.declared.Gain.{Gain}
use Rattle.booking.specs.Figures.{are_spiral, are_split, splits, beside_split}
use Rattle.booking.specs.Booking.{beside, beside_drawn}
use Rattle.booking.specs.claims.Booking.{splits_by, more_by}
use Rattle.booking.specs.work.Sums.{most_number, most_beside, GainBy}
use Rattle.booking.proofs.Figures.{figure_stop, figure_step, figure_laws}

pub beside_more : (x y : ℕ) → 0 < y → beside x y ≡ 4 * (x + y)
unfolding beside
beside_more x y h = rw (ne_eqb y 0 (λ e. omega arith))

pub drawn_flat : (x y : ℕ) → y ≡ 0 → x ≤ most_number → (2 * x ≡ beside_drawn x y) × (2 * x ≤ most_beside)
unfolding beside_drawn are_split are_spiral beside
drawn_flat x y e h = (rw e refl, omega arith)

module _ (x y : ℕ) (p : 0 < y) (o : y ≤ x) (few : x ≤ most_number) where
  -- a common divisor above 1: split, or fans that are as many where the numbers are equal
  pub drawn_split : 1 < gcd x y → (beside_split x y ≡ beside_drawn x y) × (beside_split x y ≤ most_beside)
  unfolding beside_drawn are_split are_spiral
  drawn_split g = (
    elim (ℕ_discrete x y) [
      | yes e ↦ rw (le-ltb y x (omega arith), lt-ltb 0 y p) (sym (beside_more x y p ∙ omega (arith, ap (λ z. beside_split x z) (sym e), figure_stop (λ n. 8 * n) (λ x y. 4 * x + 10 * y) x)))
      | no e ↦ rw (lt-ltb 0 y p, lt-ltb y x (omega arith), lt-ltb 1 (gcd x y) g) refl
    ],
    omega (arith, (figure_laws x y p o).triangles_fit, mul-le-mul_left 8 (mul-le-mul few few)),
  )

  pub drawn_fans : gcd x y ≤ 1 → (4 * (x + y) ≡ beside_drawn x y) × (4 * (x + y) ≤ most_beside)
  unfolding beside_drawn are_split
  drawn_fans g = (go (are_spiral x y), omega arith)
    where
      go : (b : Bool) → 4 * (x + y) ≡ pick (b && ltb 1 (gcd x y)) (beside_split x y) (beside x y)
      go true = rw (le-ltb 1 (gcd x y) g) (sym (beside_more x y p))
      go false = sym (beside_more x y p)

-- which numbers are split
module _ (x y : ℕ) where
  -- two numbers that are split, both divided by a number above 1
  pub split_least : are_split x y ≡ true → (2 ≤ y) × (4 ≤ x)
  unfolding are_split are_spiral
  split_least e =
      let a = and_left (ltb 0 y && ltb y x) (ltb 1 (gcd x y)) e in
      let some : 0 < y = ltb-true 0 y (and_left (ltb 0 y) (ltb y x) a) in
      let more : y < x = ltb-true y x (and_right (ltb 0 y) (ltb y x) a) in
      let above : 1 < gcd x y = ltb-true 1 (gcd x y) (and_right (ltb 0 y && ltb y x) (ltb 1 (gcd x y)) e) in
      let (u, v) = gcd_both x y (omega arith) in
      let p : gcd x y ≤ y = le_of_dvd some v in
      let q : gcd x y ≤ x - y = le_of_dvd (omega arith) (dvd-sub (gcd x y) u v) in
      (omega arith, omega arith)

  -- so not where d2 is below 2
  pub short_not : y < 2 → are_split x y ≡ false
  short_not h = go (are_split x y) refl
    where
      go : (b : Bool) → are_split x y ≡ b → are_split x y ≡ false
      go false e = e
      go true e = absurd (omega (arith, split_least e))

  pub equal_not : y ≡ x → are_split x y ≡ false
  unfolding are_split are_spiral
  equal_not e = rw (le-ltb y x (omega arith)) (none (ltb 0 y))
    where
      none : (b : Bool) → ((b && false) && ltb 1 (gcd x y)) ≡ false
      none true = refl
      none false = refl

  pub prime_not : gcd x y ≡ 1 → are_split x y ≡ false
  unfolding are_split
  prime_not e = rw (le-ltb 1 (gcd x y) (omega arith)) (none (are_spiral x y))
    where
      none : (b : Bool) → (b && false) ≡ false
      none true = refl
      none false = refl

  pub gain_none : are_split x y ≡ false → {r : Gain} → (r.splits ≡ 0) × (r.more ≡ 0) → GainBy x y r
  unfolding splits_by more_by
  gain_none e (a, b) = record { splits_are = a ∙ rw e refl; more_is = b ∙ rw e refl }

  module _ (p : 0 < y) (o : y < x) (g : 1 < gcd x y) where
    is-split : are_split x y ≡ true
    unfolding are_split are_spiral
    is-split = rw (lt-ltb 0 y p, lt-ltb y x o, lt-ltb 1 (gcd x y) g) refl

    pub more_than : 4 * (x + y) ≤ beside_split x y
    more_than = omega (arith, figure_step (λ n. 8 * n) (λ x y. 4 * x + 10 * y) x y p o)

    pub gain_some : {s t u : ℕ} → s ≡ splits x y → t ≡ beside_split x y → u ≡ 4 * (x + y) → (s ≡ splits_by x y) × (t - u ≡ more_by x y)
    unfolding splits_by more_by
    gain_some a b d = (a ∙ rw is-split refl, rw (is-split, b, d, beside_more x y p) refl)
