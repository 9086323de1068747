-- Three, four and six numbers one by one; two numbers in order or equal; step by step; a function that rises tells its arguments.
use Prim.Native.Nat.{ℕ, zero, suc, ◌<◌}
use mathlib.Core.Path.{◌≡◌}
use native.Mathlib.Decide.{dec_lt}
use native.Mathlib.Omega.{arith}

pub below_three : (P : ℕ → Type 0) → P 0 → P 1 → P 2 → (i : ℕ) → i < 3 → P i
below_three P a b c zero h = a
below_three P a b c (suc zero) h = b
below_three P a b c (suc (suc zero)) h = c
below_three P a b c (suc (suc (suc i))) h = absurd (omega arith)

pub below_four : (P : ℕ → Type 0) → P 0 → P 1 → P 2 → P 3 → (n : ℕ) → n < 4 → P n
below_four P a b c d zero h = a
below_four P a b c d (suc n) h = below_three (λ n. P (suc n)) b c d n (omega arith)

pub below_six : (P : ℕ → Type 0) → P 0 → P 1 → P 2 → P 3 → P 4 → P 5 → (n : ℕ) → n < 6 → P n
below_six P a b c d e f zero h = a
below_six P a b c d e f (suc zero) h = b
below_six P a b c d e f (suc (suc n)) h = below_four (λ n. P (suc (suc n))) c d e f n (omega arith)

pub trichotomy : {T : Type 0} (a b : ℕ) → (a < b → T) → (b < a → T) → (a ≡ b → T) → T
trichotomy a b l g e = elim (dec_lt a b) [ yes h ↦ l h | no h ↦ elim (dec_lt b a) [ yes k ↦ g k | no k ↦ e (omega arith) ] ]

-- a relation that holds from each number below n to the next, and goes on
pub climb : (R : ℕ → ℕ → Type 0) (n : ℕ) → ((i j k : ℕ) → R i j → R j k → R i k) → ((i : ℕ) → suc i < n → R i (suc i)) → (i j : ℕ) → i < j → j < n → R i j
climb R n on step i zero l h = absurd (omega arith)
climb R n on step i (suc j) l h = elim (dec_lt i j) [
  | yes g ↦ on i j (suc j) (climb R n on step i j g (omega arith)) (step j h)
  | no g ↦ let e : i ≡ j = omega arith in rw e (step j h)
]

pub rising : (f : ℕ → ℕ) (n : ℕ) → ((i : ℕ) → suc i < n → f i < f (suc i)) → (i j : ℕ) → i < j → j < n → f i < f j
rising f n = climb (λ i j. f i < f j) n (λ i j k a b. omega arith)

pub rising_once : (f : ℕ → ℕ) (n : ℕ) → ((i j : ℕ) → i < j → j < n → f i < f j) → (i j : ℕ) → i < n → j < n → f i ≡ f j → i ≡ j
rising_once f n rises i j li lj e =
    trichotomy i j (λ h. absurd (omega (arith, rises i j h lj))) (λ h. absurd (omega (arith, rises j i h li))) (λ h. h)
