-- The figures of splits: Euclid's algorithm by subtraction, and how large they can be.
use Prim.Native.Nat.{ℕ, zero, suc, ◌+◌, ◌-◌, ◌*◌, ◌/◌, ◌≤◌, ◌<◌, ◌∣◌}
use mathlib.Core.Path.{◌≡◌, refl, sym, ap, ◌∙◌, subst}
use native.Mathlib.Nat.{dvd-sub, le_of_dvd, le-div_iff_mul-le, div-mul-le_self, mul-le-mul, mul-le-mul_left, suc-mul, mul-suc, one-dvd, div-one}
use native.Mathlib.Omega.{arith}
use native.Mathlib.Decide.{dec_lt, ℕ_discrete}
use borrow.Author.Tests.{eq-eqb, ne_eqb}
use Rattle.counting.specs.Gcd.{gcd}
use Rattle.counting.proofs.Gcd.{gcd_pos, gcd_both, gcd_swap, gcd_zero, gcd_less}
use Rattle.booking.specs.Figures.{next_larger, next_smaller, figure_in, figure, splits}
use Rattle.booking.specs.claims.Figures.{FigureLaws}

module _ (stop : ℕ → ℕ) (add : ℕ → ℕ → ℕ) where
  pub stop_in : (n x : ℕ) → figure_in stop add n x x ≡ stop x
  unfolding figure_in
  stop_in zero x = refl
  stop_in (suc n) x = rw (eq-eqb x x refl, figure_in)

  step-in : (n x y : ℕ) → y < x → figure_in stop add (suc n) x y ≡ add x y + figure_in stop add n (next_larger x y) (next_smaller x y)
  unfolding figure_in
  step-in n x y h = rw (ne_eqb x y (λ e. omega arith), figure_in)

  -- more than enough is enough
  enough : (n m x y : ℕ) → 0 < y → y ≤ x → x + y ≤ n → x + y ≤ m → figure_in stop add n x y ≡ figure_in stop add m x y
  enough zero m x y p o h k = absurd (omega arith)
  enough (suc n) zero x y p o h k = absurd (omega arith)
  enough (suc n) (suc m) x y p o h k =
      elim (ℕ_discrete x y) [
        | yes e ↦ subst (λ w. figure_in stop add (suc n) x w ≡ figure_in stop add (suc m) x w) e (stop_in (suc n) x ∙ sym (stop_in (suc m) x))
        | no e ↦ step-in n x y (omega arith)
            ∙ ap (λ w. add x y + w) (enough n m (next_larger x y) (next_smaller x y) (omega arith) (omega arith) (omega arith) (omega arith)) ∙ sym (step-in m x y (omega arith))
      ]

  pub figure_stop : (x : ℕ) → figure stop add x x ≡ stop x
  unfolding figure
  figure_stop x = stop_in (x + x) x

  pub figure_step : (x y : ℕ) → 0 < y → y < x → figure stop add x y ≡ add x y + figure stop add (next_larger x y) (next_smaller x y)
  unfolding figure
  figure_step x y p h =
      enough (x + y) (suc (x + y)) x y p (omega arith) (omega arith) (omega arith) ∙ step-in (x + y) x y h
      ∙ ap (λ w. add x y + w) (enough (x + y) (next_larger x y + next_smaller x y) (next_larger x y) (next_smaller x y) (omega arith) (omega arith) (omega arith) (omega arith))

-- what holds where the numbers are equal, and of a split where it holds of what is left, holds of all
pub induct : (P : ℕ → ℕ → Type 0) → ((x : ℕ) → 0 < x → P x x) → ((x y : ℕ) → 0 < y → y < x → P (next_larger x y) (next_smaller x y) → P x y)
    → (x y : ℕ) → 0 < y → y ≤ x → P x y
induct P end more x y = go (x + y) x y (omega arith)
  where
    go : (n x y : ℕ) → x + y ≤ n → 0 < y → y ≤ x → P x y
    go zero x y h p o = absurd (omega arith)
    go (suc n) x y h p o =
        elim (ℕ_discrete x y) [
          | yes e ↦ subst (P x) e (end x (omega arith))
          | no e ↦ more x y p (omega arith) (go n (next_larger x y) (next_smaller x y) (omega arith) (omega arith) (omega arith))
        ]

-- the greatest common divisor is kept, and is the number at the end
gcd_same : (x : ℕ) → 0 < x → gcd x x ≡ x
gcd_same x h =
    let e : x - x ≡ 0 = omega arith in
    sym (gcd_less x x (omega arith) h) ∙ ap (λ n. gcd n x) e ∙ gcd_swap 0 x ∙ gcd_zero x

pub gcd_next : (x y : ℕ) → 0 < y → y < x → gcd (next_larger x y) (next_smaller x y) ≡ gcd x y
gcd_next x y p h =
    elim (dec_lt y (x - y)) [
      | yes l ↦ let a : next_larger x y ≡ x - y = omega arith in
          let b : next_smaller x y ≡ y = omega arith in
          rw (a, b) (gcd_less x y (omega arith) (omega arith))
      | no l ↦ let a : next_larger x y ≡ y = omega arith in
          let b : next_smaller x y ≡ x - y = omega arith in
          rw (a, b) (gcd_swap y (x - y) ∙ gcd_less x y (omega arith) (omega arith))
    ]

gcd_end : (x y : ℕ) → 0 < y → y ≤ x → figure (λ n. n) (λ x y. 0) x y ≡ gcd x y
gcd_end = induct (λ x y. figure (λ n. n) (λ x y. 0) x y ≡ gcd x y)
    (λ x p. figure_stop (λ n. n) (λ x y. 0) x ∙ sym (gcd_same x p))
    (λ x y p h i. figure_step (λ n. n) (λ x y. 0) x y p h ∙ omega (arith, i, gcd_next x y p h))

-- each split lessens the larger number by a common divisor or more
less_by : (g x y : ℕ) → 0 < y → y < x → g ∣ x → g ∣ y → next_larger x y + g ≤ x
less_by g x y p h a b = omega (arith, le_of_dvd p b, le_of_dvd {n = x - y} (omega arith) (dvd-sub g a b))

-- and divides what is left
divide_on : (d x y : ℕ) → d ∣ x → d ∣ y → (d ∣ next_larger x y) × (d ∣ next_smaller x y)
divide_on d x y p q =
    elim (dec_lt y (x - y)) [
      | yes l ↦ let a : next_larger x y ≡ x - y = omega arith in
          let b : next_smaller x y ≡ y = omega arith in
          (rw a (dvd-sub d p q), rw b q)
      | no l ↦ let a : next_larger x y ≡ y = omega arith in
          let b : next_smaller x y ≡ x - y = omega arith in
          (rw a q, rw b (dvd-sub d p q))
    ]

few-splits : (g x y : ℕ) → 0 < g → 0 < y → y ≤ x → g ∣ x → g ∣ y → splits x y + 1 ≤ x / g
few-splits g x y pg py h = induct (λ x y. g ∣ x → g ∣ y → splits x y + 1 ≤ x / g) end more x y py h
  where
    end : (x : ℕ) → 0 < x → g ∣ x → g ∣ x → splits x x + 1 ≤ x / g
    end x p a b = subst (λ n. n + 1 ≤ x / g) (sym (figure_stop (λ n. 0) (λ x y. 1) x)) ((le-div_iff_mul-le pg).1 (omega (arith, le_of_dvd p a)))

    more : (x y : ℕ) → 0 < y → y < x → (g ∣ next_larger x y → g ∣ next_smaller x y → splits (next_larger x y) (next_smaller x y) + 1 ≤ next_larger x y / g)
        → g ∣ x → g ∣ y → splits x y + 1 ≤ x / g
    more x y p l i a b =
        let (u, v) = divide_on g x y a b in
        let w : (next_larger x y / g + 1) ≤ x / g = (le-div_iff_mul-le pg).1 (omega (arith, less_by g x y p l a b, div-mul-le_self (next_larger x y) g)) in
        omega (arith, figure_step (λ n. 0) (λ x y. 1) x y p l, i u v, w)

-- c times the square is enough where it is at the end, and a split adds no more than squares that follow each other differ by
module _ (stop : ℕ → ℕ) (add : ℕ → ℕ → ℕ) (c : ℕ) (at_end : (n : ℕ) → 0 < n → stop n ≤ c * (n * n))
    (at_split : (n y : ℕ) → y ≤ n → add (suc n) y + c * (n * n) ≤ c * (suc n * suc n)) where
  split_le : (x y : ℕ) → 0 < y → y < x → figure stop add (next_larger x y) (next_smaller x y) ≤ c * (next_larger x y * next_larger x y) → figure stop add x y ≤ c * (x * x)
  split_le zero y p h i = absurd (omega arith)
  split_le (suc n) y p h i =
      let l : next_larger (suc n) y ≤ n = omega arith in
      omega (
        arith,
        figure_step stop add (suc n) y p h,
        i,
        at_split n y (omega arith),
        mul-le-mul_left c (mul-le-mul l l),
      )

  figure_le : (x y : ℕ) → 0 < y → y ≤ x → figure stop add x y ≤ c * (x * x)
  figure_le = induct (λ x y. figure stop add x y ≤ c * (x * x)) (λ x p. subst (λ n. n ≤ c * (x * x)) (sym (figure_stop stop add x)) (at_end x p)) split_le

square_pos : (n : ℕ) → 0 < n → n ≤ n * n
square_pos zero h = absurd (omega arith)
square_pos (suc n) h = omega (arith, suc-mul n (suc n))

square_suc : (n : ℕ) → suc n * suc n ≡ n * n + n + n + 1
square_suc n = omega (arith, suc-mul n (suc n), mul-suc n n)

pub figure_laws : (x y : ℕ) → 0 < y → y ≤ x → FigureLaws x y
figure_laws x y p h =
    let (a, b) = gcd_both x y (omega arith) in
    record {
      step = λ s a l. figure_step s a x y p l;
      stop = λ s a. figure_stop s a x;
      positive = λ l. omega arith;
      order = omega arith;
      falls = λ l. omega arith;
      kept = λ l. gcd_next x y p l;
      end = gcd_end x y p h;
      few = few-splits (gcd x y) x y (gcd_pos x y (omega arith)) p h a b;
      splits_fit = omega (arith, few-splits 1 x y (omega arith) p h (one-dvd x) (one-dvd y), div-one x);
      inner_fit = figure_le (λ n. 0) (λ x y. 2 * (x + y)) 2 (λ n l. omega arith) (λ n y l. omega (arith, square_suc n)) x y p h;
      triangles_fit = figure_le (λ n. 8 * n) (λ x y. 4 * x + 10 * y) 8 (λ n l. omega (arith, square_pos n l)) (λ n y l. omega (arith, square_suc n)) x y p h;
    }
