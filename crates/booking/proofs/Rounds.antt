-- x places on in a round of 2 * (x + y), again and again: after 2 * j times the start is met exactly where x + y divides x * j.
use Prim.Native.Nat.{ℕ, zero, suc, ◌+◌, ◌*◌, ◌/◌, ◌%◌, ◌<◌, ◌∣◌}
use mathlib.Core.Path.{◌≡◌, sym, ap, ◌∙◌, subst}
use native.Mathlib.Omega.{arith}
use native.Mathlib.Nat.{mul-suc, mul-zero, mul_assoc, mul_left_comm, mod-lt, mod-eq_of_lt, mod-add-mod, div-add-mod, add-mul-mod_self_left, mul-div_cancel', dvd-mul_right}
use Rattle.counting.specs.Lists.{it}
use Rattle.booking.specs.claims.Left.{further}

module _ (n x : ℕ) where
  pub further_lt : (q : ℕ) → q < n → further n x q < n
  unfolding further
  further_lt q l = mod-lt (q + x) (omega arith)

  pub furthers_lt : (j q : ℕ) → q < n → it (further n x) j q < n
  unfolding it
  furthers_lt zero q l = l
  furthers_lt (suc j) q l = furthers_lt j (further n x q) (further_lt q l)

  pub furthers_is : (j q : ℕ) → q < n → it (further n x) j q ≡ (q + x * j) % n
  unfolding it further
  furthers_is zero q l = sym (ap (λ m. m % n) (omega (arith, mul-zero x)) ∙ mod-eq_of_lt l)
  furthers_is (suc j) q l =
      furthers_is j (further n x q) (further_lt q l) ∙ mod-add-mod (q + x) n (x * j)
      ∙ ap (λ m. m % n) (omega (arith, mul-suc x j))

module _ (x y j q : ℕ) (l : q < 2 * (x + y)) where
  abbrev n : ℕ
  n = 2 * (x + y)

  twice : x * (2 * j) ≡ 2 * (x * j)
  twice = mul_left_comm x 2 j

  pub back_if : x + y ∣ x * j → it (further n x) (2 * j) q ≡ q
  back_if d =
      let m = x * j / (x + y) in
      let e : q + x * (2 * j) ≡ q + n * m = omega (arith, twice, mul-div_cancel' (x + y) d, mul_assoc 2 (x + y) m) in
      furthers_is n x (2 * j) q l ∙ ap (λ k. k % n) e ∙ add-mul-mod_self_left q n m ∙ mod-eq_of_lt l

  pub if_back : it (further n x) (2 * j) q ≡ q → x + y ∣ x * j
  if_back b =
      let m = (q + x * (2 * j)) / n in
      let e : x * j ≡ (x + y) * m = omega (arith, twice, div-add-mod (q + x * (2 * j)) n, furthers_is n x (2 * j) q l, b, mul_assoc 2 (x + y) m) in
      subst (λ k. x + y ∣ k) (sym e) (dvd-mul_right (x + y) m)
