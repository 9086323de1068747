-- Laws of decimal digits. Assumes nothing.
use Prim.Native.Nat.{ℕ, zero, suc, ◌/◌, ◌%◌, ◌^◌, ◌≤◌, ◌<◌}
use mathlib.Core.Path.{◌≡◌, refl, sym, ap, ◌∙◌}
use mathlib.Core.List.{List, [], ◌∷◌, ◌++◌}
use native.Mathlib.Nat.{not-suc-le-zero}
use native.Mathlib.Omega.{arith}
use native.Mathlib.Decide.{dec_lt}
use lib.ListN.{length, length-append}
use borrow.Author.Tests.{lt-ltb, le-ltb}
use Rattle.std.specs.Fmt as Fmt
use Rattle.std.proofs.lemmas.Fmt.{decimal_by_steps}
use Rattle.listing.specs.Text.{digit, digits, decimal}
use Rattle.listing.specs.work.Text.{longest}

digits_one : (k n : ℕ) → n < 10 → digits (suc k) n ≡ digit n ∷ []
unfolding digits
digits_one k n h = rw (lt-ltb n 10 h, digits)

digits_none : (n : ℕ) → digits zero n ≡ []
unfolding digits
digits_none n = refl

-- the last digit of a number of several
digits_last : (k n : ℕ) → 10 ≤ n → digits (suc k) n ≡ digits k (n / 10) ++ (digit (n % 10) ∷ [])
unfolding digits
digits_last k n h = rw (le-ltb n 10 h, digits)

-- any bound above the number serves
enough : (k j n : ℕ) → n < k → n < j → digits k n ≡ digits j n
enough zero j n h l = absurd (not-suc-le-zero h)
enough (suc k) zero n h l = absurd (not-suc-le-zero l)
enough (suc k) (suc j) n h l =
    elim (dec_lt n 10) [
      | yes t ↦ digits_one k n t ∙ sym (digits_one j n t)
      | no t ↦
          digits_last k n (omega arith)
          ∙ ap (λ (x : List ℕ). x ++ (digit (n % 10) ∷ [])) (enough k j (n / 10) (omega arith) (omega arith))
          ∙ sym (digits_last j n (omega arith))
    ]

pub decimal_one : (n : ℕ) → n < 10 → decimal n ≡ digit n ∷ []
unfolding decimal
decimal_one n h = digits_one n n h

pub decimal_last : (n : ℕ) → 10 ≤ n → decimal n ≡ decimal (n / 10) ++ (digit (n % 10) ∷ [])
unfolding decimal
decimal_last n h =
    digits_last n n h ∙ ap (λ (x : List ℕ). x ++ (digit (n % 10) ∷ [])) (enough n (suc (n / 10)) (n / 10) (omega arith) (omega arith))

-- a number below a power of ten has at most that many digits
digits_few : (k j n : ℕ) → n < 10 ^ suc j → length (digits k n) ≤ suc j
digits_few zero j n h = omega (arith, ap length (digits_none n))
digits_few (suc k) zero n h = rw (digits_one k n (omega (arith, h))) (omega arith)
digits_few (suc k) (suc j) n h =
    elim (dec_lt n 10) [
      | yes t ↦ rw (digits_one k n t) (omega arith)
      | no t ↦
          let q : n / 10 < 10 ^ suc j = omega arith in
          let l : 10 ≤ n = omega arith in
          rw (digits_last k n l) (omega (arith, length-append (digits k (n / 10)) (digit (n % 10) ∷ []), digits_few k j (n / 10) q))
    ]

pub decimal_few : (j n : ℕ) → n < 10 ^ suc j → length (decimal n) ≤ suc j
unfolding decimal
decimal_few j n h = digits_few (suc n) j n h

pub decimal_64 : (n : ℕ) → n < 2 ^ 64 → length (decimal n) ≤ longest
decimal_64 n h = decimal_few 19 n (omega arith)

pub decimal_32 : (n : ℕ) → n < 2 ^ 32 → length (decimal n) ≤ 10
decimal_32 n h = decimal_few 9 n (omega arith)

-- the library prints the same digits
pub printed : (n : ℕ) → n < 2 ^ 64 → Fmt.decimal n ≡ decimal n
printed = decimal_by_steps (λ n ds. ds ≡ decimal n) (λ n h. sym (decimal_one n h)) (λ n ds h q. ap (λ (x : List ℕ). x ++ (digit (n % 10) ∷ [])) q ∙ sym (decimal_last n h))
