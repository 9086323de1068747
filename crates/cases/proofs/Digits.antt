-- Six digits and their number.
use Prim.Native.Nat.{ℕ, zero, suc, ◌+◌, ◌-◌, ◌*◌, ◌/◌, ◌%◌, ◌≤◌, ◌<◌}
use mathlib.Core.Path.{◌≡◌, refl, ap, ◌∙◌}
use mathlib.Core.Bool.{Bool, true, false}
use mathlib.Core.List.{[], ◌∷◌}
use native.Mathlib.Nat.{add-zero, add-suc}
use native.Mathlib.Omega.{arith}
use lib.Dec.{eqb, ltb}
use borrow.Author.Tests.{eqb-true, ltb-true, lt-ltb}
use Rattle.counting.specs.Pick.{pick}
use Rattle.counting.specs.Lists.{over, values}
use Rattle.counting.specs.Search.{every}
use Rattle.counting.proofs.Search.{every_is, is_every}
use Rattle.cell.specs.Common.{digit_limit, is_common}
use Rattle.cases.specs.claims.Cases.{entries, from_digits, entry_of}
use Rattle.cases.specs.claims.Tally.{find_entry}
use Rattle.cases.proofs.Quick.{digit}

module _ (w : ℕ → ℕ) (C : is_common w ≡ true) where
  pub few : (k : ℕ) → k < 6 → w k < digit_limit
  unfolding is_common
  few k l = ltb-true (w k) digit_limit (every_is (λ k. ltb (w k) digit_limit) 6 C k l)

  pub entry_lt : entry_of w < entries
  unfolding entry_of from_digits
  entry_lt = omega (arith, few 0 (omega arith), few 1 (omega arith), few 2 (omega arith), few 3 (omega arith), few 4 (omega arith), few 5 (omega arith))

  number : entry_of w ≡ 243 * w 0 + 81 * w 1 + 27 * w 2 + 9 * w 3 + 3 * w 4 + w 5
  unfolding entry_of from_digits
  number = omega arith

  -- the digits of the number are the counts again
  pub digits_back : values (digit (entry_of w)) 6 ≡ values w 6
  unfolding over digit
  digits_back = back (w 0) (w 1) (w 2) (w 3) (w 4) (w 5) (few 0 (omega arith)) (few 1 (omega arith)) (few 2 (omega arith)) (few 3 (omega arith)) (few 4 (omega arith)) (few 5 (omega arith)) (entry_of w) number
    where
      back : (a b c d e f : ℕ) → a < 3 → b < 3 → c < 3 → d < 3 → e < 3 → f < 3 → (n : ℕ) → n ≡ 243 * a + 81 * b + 27 * c + 9 * d + 3 * e + f
          → (n / 243 % 3 ∷ n / 81 % 3 ∷ n / 27 % 3 ∷ n / 9 % 3 ∷ n / 3 % 3 ∷ n / 1 % 3 ∷ []) ≡ (a ∷ b ∷ c ∷ d ∷ e ∷ f ∷ [])
      back a b c d e f la lb lc ld le lf n h =
          let e0 : n / 243 % 3 ≡ a = omega arith in
          let e1 : n / 81 % 3 ≡ b = omega arith in
          let e2 : n / 27 % 3 ≡ c = omega arith in
          let e3 : n / 9 % 3 ≡ d = omega arith in
          let e4 : n / 3 % 3 ≡ e = omega arith in
          let e5 : n / 1 % 3 ≡ f = omega arith in
          rw (e0, e1, e2, e3, e4, e5) refl

-- and a number below 729 is that of its digits
digit_lt : (n k : ℕ) → digit n k < digit_limit
unfolding digit
digit_lt n k = omega arith

pub digits_common : (n : ℕ) → is_common (digit n) ≡ true
unfolding is_common
digits_common n = is_every (λ k. ltb (digit n k) digit_limit) 6 (λ k l. lt-ltb (digit n k) digit_limit (digit_lt n k))

numbers_back : every (λ n. eqb (entry_of (digit n)) n) entries ≡ true
unfolding every entry_of from_digits digit
numbers_back = refl

pub digits_number : (n : ℕ) → n < entries → entry_of (digit n) ≡ n
digits_number n l = eqb-true (entry_of (digit n)) n (every_is (λ n. eqb (entry_of (digit n)) n) entries numbers_back n l)

-- no number of fewer of the digits is greater
up : (w : ℕ → ℕ) (k j : ℕ) → from_digits w k ≤ from_digits w (k + j)
unfolding from_digits
up w k zero = rw (add-zero k) (omega arith)
up w k (suc j) = rw (add-suc k j) (omega (arith, up w k j))

pub digits_lt : (w : ℕ → ℕ) → is_common w ≡ true → (k : ℕ) → k ≤ 6 → from_digits w k < entries
unfolding entry_of
digits_lt w C k h = let e : k + (6 - k) ≡ 6 = omega arith in omega (arith, up w k (6 - k), ap (from_digits w) e, entry_lt w C)

-- the digits one by one
pub digits_none : (w : ℕ → ℕ) → 0 ≡ from_digits w 0
unfolding from_digits
digits_none w = refl

pub digits_more : (w : ℕ → ℕ) (k n x : ℕ) → n ≡ from_digits w k → x ≡ w k → digit_limit * n + x ≡ from_digits w (k + 1)
unfolding from_digits
digits_more w k n x e f = let s : k + 1 ≡ suc k = omega arith in rw (s, e, f) refl

-- the place of an entry
module _ (w : ℕ → ℕ) where
  pub found_in : is_common w ≡ true → (n k : ℕ) → n ≡ from_digits w k → k ≡ 6 → n ≡ find_entry w
  unfolding find_entry entry_of
  found_in C n k e f = rw C (e ∙ ap (from_digits w) f)

  pub found_out : is_common w ≡ false → entries ≡ find_entry w
  unfolding find_entry
  found_out C = rw C refl

  -- what is answered there
  pub answered : (n : ℕ) → n ≡ find_entry w → n < entries → (is_common w ≡ true) × (n ≡ entry_of w)
  unfolding find_entry
  answered n e h = go (is_common w) refl (e)
    where
      go : (b : Bool) → is_common w ≡ b → n ≡ pick b (entry_of w) entries → (is_common w ≡ true) × (n ≡ entry_of w)
      go true q f = (q, f)
      go false q f = absurd (omega arith)

  pub unanswered : (n : ℕ) → n ≡ find_entry w → entries ≤ n → is_common w ≡ false
  unfolding find_entry
  unanswered n e h = go (is_common w) refl e
    where
      go : (b : Bool) → is_common w ≡ b → n ≡ pick b (entry_of w) entries → is_common w ≡ false
      go true q f = absurd (omega (arith, entry_lt w q))
      go false q f = q
