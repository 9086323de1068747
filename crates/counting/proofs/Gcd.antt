-- Laws of the greatest common divisor, and of the order of x modulo x + y: the least o > 0 with x + y a divisor of x * o. It is (x + y) / gcd x y,
-- without Euclid's steps: x + y divides x * k exactly where o divides k; so o divides x + y, and what it leaves is the greatest common divisor.
use Prim.Native.Nat.{ℕ, zero, suc, ◌+◌, ◌*◌, ◌-◌, ◌/◌, ◌%◌, ◌≤◌, ◌<◌, ◌∣◌}
use mathlib.Core.Path.{◌≡◌, refl, sym, ap, ◌∙◌, subst}
use mathlib.Core.Logic.{inl, inr}
use mathlib.Core.Bool.{Bool, true, false, ◌&&◌}
use native.Mathlib.Omega.{arith}
use native.Mathlib.Decide.{dec_lt}
use native.Mathlib.Nat.{mul_comm, mul-add, mul_assoc, mul-sub, div-add-mod, mod-lt, mul-zero, eq_of_mul-eq-mul_left, mul-le-mul_left, mul-le-mul_right, mul-lt-mul_of_pos_left, mul_right_comm, dvd_refl, dvd-zero, dvd-add, dvd-sub, one-dvd, dvd-mul_right, le_of_dvd, mod-eq-zero_of_dvd, dvd_of_mod-eq-zero, mul-div_cancel'}
use borrow.Author.Tests.{eqb-true, eq-eqb}
use Rattle.counting.specs.Search.{last}
use Rattle.counting.specs.Gcd.{divides, gcd}
use Rattle.counting.proofs.Bools.{clash, and_true, and_left, and_right, not_clash}
use Rattle.counting.proofs.Search.{Least, least, last_at, last_is, last_above, last_ext}

pub divides_is : (k n : ℕ) → divides k n ≡ true → k ∣ n
unfolding divides
divides_is k n e = dvd_of_mod-eq-zero k (eqb-true (n % k) 0 e)

pub is_divides : (k n : ℕ) → k ∣ n → divides k n ≡ true
unfolding divides
is_divides k n d = eq-eqb (n % k) 0 (mod-eq-zero_of_dvd k d)

module _ (a b : ℕ) where
  abbrev both : ℕ → Bool
  both k = divides k a && divides k b

  both_is : (k : ℕ) → k ∣ a → k ∣ b → both k ≡ true
  both_is k p q = and_true (divides k a) (divides k b) (is_divides k a p) (is_divides k b q)

  -- what divides both and is no less than any that does
  pub gcd_is : (h : ℕ) → h ∣ a → h ∣ b → h ≤ a + b → ((e : ℕ) → e ∣ a → e ∣ b → e ≤ h) → gcd a b ≡ h
  unfolding gcd
  gcd_is h p q l most =
      omega (
        arith,
        last_at both (suc (a + b)) h (omega arith) (both_is h p q)
            (λ i g u. not_clash (both i)
            (λ e. omega (arith, most i (divides_is i a (and_left (divides i a) (divides i b) e)) (divides_is i b (and_right (divides i a) (divides i b) e))))),
      )

  module _ (some : 0 < a + b) where
    gcd_most : (e : ℕ) → e ∣ a → e ∣ b → e ≤ gcd a b
    unfolding gcd
    gcd_most e p q =
        elim (dec_lt (last both (suc (a + b)) - 1) e) [
          | yes l ↦ clash (both_is e p q) (last_above both (suc (a + b)) e (omega arith) (omega (arith, le_of_dvd some (dvd-add e p q))))
          | no l ↦ omega arith
        ]

    pub gcd_pos : 0 < gcd a b
    gcd_pos = gcd_most 1 (one-dvd a) (one-dvd b)

    pub gcd_both : (gcd a b ∣ a) × (gcd a b ∣ b)
    unfolding gcd
    gcd_both =
        let e = last_is both (suc (a + b)) (omega (arith, gcd_pos)) in
        let g = last both (suc (a + b)) - 1 in
        (divides_is g a (and_left (divides g a) (divides g b) e), divides_is g b (and_right (divides g a) (divides g b) e))

-- a number that has a divisor above 1 with another is above 1
pub gcd_above : (a b : ℕ) → 0 < b → 1 < gcd a b → 1 < b
gcd_above a b h g = omega (arith, le_of_dvd h (gcd_both a b (omega arith)).1)

-- the gcd either way round, with 0, and less one of the two
pub gcd_swap : (a b : ℕ) → gcd a b ≡ gcd b a
unfolding gcd
gcd_swap a b =
    let s : suc (a + b) ≡ suc (b + a) = omega arith in
    ap (λ n. n - 1) (last_ext (both a b) (both b a) (suc (a + b)) (λ k _. swap (divides k a) (divides k b)) ∙ ap (last (both b a)) s)
  where
    swap : (p q : Bool) → (p && q) ≡ (q && p)
    swap true true = refl
    swap true false = refl
    swap false true = refl
    swap false false = refl

pub gcd_zero : (a : ℕ) → gcd a 0 ≡ a
unfolding gcd divides last
gcd_zero zero = refl
gcd_zero (suc n) = gcd_is (suc n) 0 (suc n) (dvd_refl (suc n)) (dvd-zero (suc n)) (omega arith) (λ e p q. le_of_dvd (omega arith) p)

pub gcd_less : (a b : ℕ) → b ≤ a → 0 < a → gcd (a - b) b ≡ gcd a b
gcd_less a b h l =
    let (p, q) = gcd_both a b (omega arith) in
    gcd_is (a - b) b (gcd a b) (dvd-sub (gcd a b) p q) q (omega (arith, le_of_dvd l p))
    (λ e u v. gcd_most a b (omega arith) e (subst (λ n. e ∣ n) (omega arith) (dvd-add e u v)) v)

-- o is the order of x modulo M
pub record Order (x M o : ℕ) : Type 0 where
  pub pos : 0 < o
  pub back : M ∣ x * o
  pub first : (j : ℕ) → 0 < j → j < o → M ∣ x * j → ⊥

pub order : (x M : ℕ) → 0 < M → (o : ℕ) × Order x M o
order x M l = go (least (λ i. divides M (x * suc i)) M)
  where
    go : Least (λ i. divides M (x * suc i)) M → (o : ℕ) × Order x M o
    go (inl (k, lk, e, low)) = (suc k, record { pos = omega arith; back = divides_is M (x * suc k) e; first = first k low })
      where
        first : (k : ℕ) → ((i : ℕ) → i < k → divides M (x * suc i) ≡ false) → (j : ℕ) → 0 < j → j < suc k → M ∣ x * j → ⊥
        first k low zero z h d = omega arith
        first k low (suc j) z h d = clash (is_divides M (x * suc j) d) (low j (omega arith))
    go (inr f) =
        let e : x * suc (M - 1) ≡ M * x = ap (λ n. x * n) (omega arith) ∙ mul_comm x M in
        clash (is_divides M (x * suc (M - 1)) (subst (λ n. M ∣ n) (sym e) (dvd-mul_right M x))) (f (M - 1) (omega arith))

module _ (x y o : ℕ) (O : Order x (x + y) o) (l : 0 < x + y) where
  abbrev M : ℕ
  M = x + y

  -- how often the order goes into M, and what is left over, which is nothing
  abbrev h : ℕ
  h = M / o

  abbrev m : ℕ
  m = x * o / M

  back : x * o ≡ M * m
  back = sym (mul-div_cancel' M O.back)

  whole : o * h + M % o ≡ M
  whole = div-add-mod M o

  over : x * (M % o) ≡ M * (x - m * h)
  over =
      let a : x * (o * h) ≡ M * (m * h) = sym (mul_assoc x o h) ∙ ap (λ n. n * h) back ∙ mul_assoc M m h in
      let b : x * (o * h) + x * (M % o) ≡ M * x = sym (mul-add x (o * h) (M % o)) ∙ ap (λ n. x * n) whole ∙ mul_comm x M in
      omega (arith, mul-sub M x (m * h))

  exact : M ≡ o * h
  exact = go (M % o) refl
    where
      go : (r : ℕ) → M % o ≡ r → M ≡ o * h
      go zero e = omega (arith, whole)
      go (suc r) e = absurd (O.first (M % o) (omega arith) (mod-lt M O.pos) (subst (λ n. M ∣ n) (sym over) (dvd-mul_right M (x - m * h))))

  -- it divides both
  in_x : x ≡ h * m
  in_x =
      eq_of_mul-eq-mul_left o O.pos x (h * m)
      (mul_comm o x ∙ back ∙ ap (λ n. n * m) exact ∙ mul_assoc o h m)

  in_y : y ≡ h * (o - m)
  in_y = let a : M ≡ h * o = exact ∙ mul_comm o h in omega (arith, mul-sub h o m, in_x)

  -- and whatever divides both is no greater
  most : (e : ℕ) → e ∣ x → e ∣ y → e ≤ h
  most e p q =
      elim (dec_lt h e) [
        | yes g ↦ absurd (less (M / e) (sym (mul-div_cancel' e (dvd-add e p q))) g)
        | no g ↦ omega arith
      ]
    where
      less : (j : ℕ) → M ≡ e * j → h < e → ⊥
      less j a g =
          let c : 0 < j = some j a in
          let b : x * j ≡ M * (x / e) = ap (λ n. n * j) (sym (mul-div_cancel' e p)) ∙ mul_right_comm e (x / e) j ∙ ap (λ n. n * (x / e)) (sym a) in
          elim (dec_lt j o) [
            | yes u ↦ O.first j c u (subst (λ n. M ∣ n) (sym b) (dvd-mul_right M (x / e)))
            | no u ↦
                let v : h * o ≤ h * j = mul-le-mul_left h (omega arith) in
                let t : j * h < j * e = mul-lt-mul_of_pos_left g c in
                omega (arith, exact, mul_comm o h, mul_comm j h, mul_comm j e)
          ]
        where
          some : (j : ℕ) → M ≡ e * j → 0 < j
          some zero a = omega (arith, a, mul-zero e)
          some (suc j) a = omega arith

  pub order_gcd : o * gcd x y ≡ x + y
  order_gcd =
      ap (λ n. o * n) (gcd_is x y h (subst (λ n. h ∣ n) (sym in_x) (dvd-mul_right h m)) (subst (λ n. h ∣ n) (sym in_y) (dvd-mul_right h (o - m))) small most) ∙ sym exact
    where
      small : h ≤ x + y
      small = let a : 1 * h ≤ o * h = mul-le-mul_right h O.pos in omega (arith, exact)
