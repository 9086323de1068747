-- d1 and d2 alone: how many long loops there are, and how long they are.
use Prim.Native.Nat.{ℕ, zero, suc, ◌+◌, ◌*◌, ◌/◌, ◌≤◌, ◌<◌}
use mathlib.Core.Path.{◌≡◌, sym, ap, ◌∙◌}
use mathlib.Core.Logic.{◌⊎◌, inl, inr, ◌≢◌, ⊎_elim}
use native.Mathlib.Omega.{arith}
use native.Mathlib.Decide.{dec_lt}
use native.Mathlib.Nat.{mul_comm, mul_assoc, zero-mul, div-eq_of_eq-mul_left, div-le_self, mul-div_cancel', dvd-add, le_of_dvd, eq-zero-or-pos, eq_of_mul-eq-mul_left}
use Rattle.counting.specs.Gcd.{gcd}
use Rattle.counting.proofs.Gcd.{Order, order_gcd, gcd_swap, gcd_zero, gcd_pos, gcd_both}
use Rattle.booking.specs.Booking.{larger, smaller}
use Rattle.booking.specs.claims.Booking.{other_length}
use Rattle.booking.specs.claims.Left.{Numbers}
use Rattle.booking.proofs.Counts.{own}

module _ (w : ℕ → ℕ) where
  abbrev x : ℕ
  x = larger w

  abbrev y : ℕ
  y = smaller w

  abbrev g : ℕ
  g = gcd x y

  long_by : (o : ℕ) → 0 < x + y → o * g ≡ x + y → other_length w ≡ 4 * o
  unfolding other_length
  long_by o l e = div-eq_of_eq-mul_left (gcd_pos x y l) (omega (arith, e, mul_assoc 4 o g))

  -- four times the order of one of the numbers modulo their sum
  pub four_orders : (u v o : ℕ) → Numbers w u v → Order u (u + v) o → 0 < u + v → other_length w ≡ 4 * o
  four_orders u v o D O l = long_by o (omega (arith, D.most, D.least)) (ap (λ m. o * m) (sym same) ∙ order_gcd u v o O l ∙ omega (arith, D.most, D.least))
    where
      same : gcd u v ≡ g
      same =
          elim (dec_lt u v) [
            | yes h ↦ (let p : u ≡ y = omega (arith, D.least) in let q : v ≡ x = omega (arith, D.most) in gcd_swap u v ∙ cc)
            | no h ↦ (let p : u ≡ x = omega (arith, D.most) in let q : v ≡ y = omega (arith, D.least) in cc)
          ]

  -- the long loops: none where nothing is left, else each of length 4 * o, with o times the gcd the sum
  record Long : Type 0 where
    o : ℕ
    some : 0 < x + y
    times : o * g ≡ x + y
    pos : 0 < o
    is : other_length w ≡ 4 * o

  long_is : ((x + y ≡ 0) × (other_length w ≡ 0)) ⊎ Long
  unfolding other_length
  long_is = ⊎_elim (λ (z : x + y ≡ 0). inl (z, none z)) (λ (z : 0 < x + y). inr (by z)) (eq-zero-or-pos (x + y))
    where
      none : x + y ≡ 0 → other_length w ≡ 0
      none z = omega (arith, z, div-le_self (4 * (x + y)) g)

      pos : (o : ℕ) → o * g ≡ x + y → 0 < x + y → 0 < o
      pos zero e l = absurd (omega (arith, zero-mul g))
      pos (suc o) e l = omega arith

      by : 0 < x + y → Long
      by z =
          let (p, q) = gcd_both x y z in
          let e : (x + y) / g * g ≡ x + y = mul_comm ((x + y) / g) g ∙ mul-div_cancel' g (dvd-add g p q) in
          record { o = (x + y) / g; some = z; times = e; pos = pos ((x + y) / g) e z; is = long_by ((x + y) / g) z e }

  pub not_three : other_length w ≢ 3
  not_three e = ⊎_elim (λ z. omega (arith, z.1)) (λ z. omega (arith, z.is)) long_is

  -- all of them together
  pub long_times : other_length w * g ≡ 4 * (x + y)
  long_times =
      ⊎_elim (λ z. ap (λ n. n * g) z.1 ∙ zero-mul g ∙ omega (arith, z.0))
      (λ z. ap (λ n. n * g) z.is ∙ mul_assoc 4 z.o g ∙ ap (λ n. 4 * n) z.times)
      long_is

  pub no_long : other_length w ≡ 0 → g ≡ 0
  no_long e = ⊎_elim (λ z. (let a : x ≡ 0 = omega (arith, z.0) in let b : y ≡ 0 = omega (arith, z.0) in ap (gcd x) b ∙ gcd_zero x ∙ a)) (λ z. absurd (omega (arith, z.is, z.pos))) long_is

  -- with d2 = 0 they have length 4, else 8 or more
  pub gcd_none : y ≡ 0 → g ≡ x
  gcd_none e = ap (gcd x) e ∙ gcd_zero x

  pub long_four : y ≡ 0 → 0 < other_length w → other_length w ≡ 4
  long_four e h =
      eq_of_mul-eq-mul_left x (⊎_elim (λ z. absurd (omega (arith, z.1))) (λ z. omega (arith, z.some)) long_is) (other_length w) 4
      (mul_comm x (other_length w) ∙ ap (λ n. other_length w * n) (sym (gcd_none e)) ∙ long_times ∙ omega (arith, e))

  pub long_more : 0 < y → 8 ≤ other_length w
  long_more h = ⊎_elim (λ z. absurd (omega (arith, z.0))) (λ z. (let a = two z.o z.pos z.times in omega (arith, z.is))) long_is
    where
      two : (o : ℕ) → 0 < o → o * g ≡ x + y → 2 ≤ o
      two zero p e = absurd (omega arith)
      two (suc zero) p e = absurd (omega (arith, e, le_of_dvd h (gcd_both x y (omega arith)).1, own w))
      two (suc (suc o)) p e = omega arith
