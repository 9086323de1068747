-- Floats of a known size: what a difference, a square and a sum of them are at most, as far as the format has every whole number.
-- `Most s N x` says that the float x is finite, has the sign s, and is at most N in size.
use Prim.Native.Nat.{ℕ, zero, suc, ◌+◌, ◌-◌, ◌*◌, ◌^◌, ◌≤◌, ◌<◌}
use mathlib.Core.Path.{◌≡◌, refl, sym, ap, ◌∙◌, subst}
use mathlib.Core.Bool.{Bool, true, false, not, ◌&&◌, ◌||◌, beq, cond, true≢false}
use native.Mathlib.Omega.{arith}
use native.Mathlib.Nat.{le_trans, le_of_eq, add-le-add, add-mul, mul-one, mul_assoc, mul_comm, mul_right_comm, mul-mul-mul_comm, mul-le-mul, mul-le-mul_right, mul-pos, le_of_mul-le-mul_right}
use lib.Dec.{T, ltb, eqb}
use lib.Ieee.{Float, nan, inf, fin, Format, binary64, prec, low, up, down, unlike, odd, units, round, neg, sum, add, sub, mul, le, of_int}
use lib.Ieee.Fits.{down_pos, round_is}
use lib.Ieee.Bits.{is_true}
use lib.Ieee.Exact.{HasValue}
use lib.Ieee.Order.{drop, kept, le_of_values, round_mono}
use lib.Ieee.Scale.{overflow}
use lib.Ieee.Back.{round_whole}
use borrow.Author.Tests.{eqb-true}
use Rattle.counting.proofs.Bools.{and_left}
use Rattle.place.specs.Place.{float_of, farthest, within}
use Rattle.place.proofs.Within.{Limited, at_most, within_limited}

abbrev pub Most : Bool → ℕ → Float → Type 0
Most s N nan = ⊥
Most s N (inf t) = ⊥
Most s N (fin t m e) = (t ≡ s) × (m * up e ≤ N * down e)

-- ---- signs
neg_most : (s : Bool) (N : ℕ) (x : Float) → Most s N x → Most (not s) N (neg x)
unfolding neg
neg_most s N nan M = absurd M
neg_most s N (inf t) M = absurd M
neg_most s N (fin t m e) M = (ap not M.0, M.1)

-- a rounded fraction with its sign turned is rounded alike
odd_neg : (d q k l : ℕ) → odd d true q k l ≡ neg (odd d false q k l)
unfolding odd neg
odd_neg d zero k l = refl
odd_neg d (suc q) k l = refl

units_neg : (f : Format) (q k : ℕ) → units f true q k ≡ neg (units f false q k)
unfolding units neg
units_neg f q k = go (ltb (q * 2 ^ k) (overflow f))
  where
    go : (b : Bool) → cond b (odd (suc (prec f)) true q k (low f)) (inf true) ≡ neg (cond b (odd (suc (prec f)) false q k (low f)) (inf false))
    go true = odd_neg (suc (prec f)) q k (low f)
    go false = refl

round_neg : (f : Format) (a b : ℕ) → round f true a b ≡ neg (round f false a b)
round_neg f a b =
    round_is f true a b
    ∙ units_neg f (kept (prec f) (a * 2 ^ low f) b) (drop (prec f) (a * 2 ^ low f) b)
    ∙ ap neg (sym (round_is f false a b))

-- one without is not negative
abbrev Unsigned : Float → Type 0
Unsigned nan = ⊥
Unsigned (inf t) = t ≡ false
Unsigned (fin t m e) = t ≡ false

odd_unsigned : (d q k l : ℕ) → Unsigned (odd d false q k l)
unfolding odd
odd_unsigned d zero k l = refl
odd_unsigned d (suc q) k l = refl

units_unsigned : (f : Format) (q k : ℕ) → Unsigned (units f false q k)
unfolding units
units_unsigned f q k = go (ltb (q * 2 ^ k) (overflow f))
  where
    go : (b : Bool) → Unsigned (cond b (odd (suc (prec f)) false q k (low f)) (inf false))
    go true = odd_unsigned (suc (prec f)) q k (low f)
    go false = refl

round_unsigned : (f : Format) (a b : ℕ) → Unsigned (round f false a b)
round_unsigned f a b = rw round_is (units_unsigned f (kept (prec f) (a * 2 ^ low f) b) (drop (prec f) (a * 2 ^ low f) b))

-- ---- rounding
-- what is not greater than a whole number that the format has
under : (x y : Float) (N : ℕ) → Unsigned x → HasValue y false N 1 → T (le x y) → Most false N x
unfolding le
under nan y N S h l = absurd S
under (inf true) y N S h l = absurd (true≢false S)
under (inf false) nan N S h l = absurd h
under (inf false) (inf t) N S h l = absurd h
under (inf false) (fin t n d) N S h l = absurd l
under (fin true m e) y N S h l = absurd (true≢false S)
under (fin false m e) nan N S h l = absurd h
under (fin false m e) (inf t) N S h l = absurd h
under (fin false m e) (fin true n d) N S h l = absurd (true≢false h.0)
under (fin false m e) (fin false n d) N S h l =
    let p = m * up e * down d in
    let q = n * up d * down e in
    let a = at_most p q (eqb p q && true) (λ h. eqb-true p q (and_left (eqb p q) true h)) (is_true (ltb p q || (eqb p q && true)) l) in
    let b : n * up d ≡ N * down d = sym (mul-one (n * up d)) ∙ h.1 in
    (refl, le_of_mul-le-mul_right (le_trans a (le_of_eq (ap (λ k. k * down e) b ∙ mul_right_comm N (down d) (down e)))) (down_pos d))

-- a rounded fraction that is at most N, a whole number that the format has, is at most N
module _ (N : ℕ) (held : N ≤ 2 ^ prec binary64) (a b : ℕ) (B : 0 < b) (h : a ≤ N * b) where
  round_least : Most false N (round binary64 false a b)
  round_least =
      under (round binary64 false a b) (round binary64 false N 1) N (round_unsigned binary64 a b) (round_whole binary64 false N held)
      (round_mono binary64 a b N 1 B (omega arith) (subst (λ k. k ≤ N * b) (sym (mul-one a)) h))

  round_most : (s : Bool) → Most s N (round binary64 s a b)
  round_most false = round_least
  round_most true = rw round_neg (neg_most false N (round binary64 false a b) round_least)

-- ---- the operations
-- of a sign that is not asked for
pub record Bounded (N : ℕ) (x : Float) : Type 0 where
  pub sign : Bool
  pub most : Most sign N x

sum_most : (N : ℕ) → N ≤ 2 ^ prec binary64 → (s : Bool) (a : ℕ) (t : Bool) (b c : ℕ) → 0 < c → a + b ≤ N * c → Bounded N (sum binary64 s a t b c)
unfolding sum
sum_most N held s a t b c C h = go (beq s t) (ltb a b)
  where
    go : (p q : Bool) → Bounded N (cond p (round binary64 s (a + b) c) (cond q (round binary64 t (b - a) c) (round binary64 (s && ltb b a) (a - b) c)))
    go true q = record { sign = s; most = round_most N held (a + b) c C h s }
    go false true = record { sign = t; most = round_most N held (b - a) c C (omega arith) t }
    go false false = record { sign = s && ltb b a; most = round_most N held (a - b) c C (omega arith) (s && ltb b a) }

-- two fractions, of sizes up to N and M, over one denominator
common : (a b c d N M : ℕ) → a ≤ N * c → b ≤ M * d → a * d + b * c ≤ (N + M) * (c * d)
common a b c d N M h k =
    le_trans (add-le-add (mul-le-mul_right d h) (mul-le-mul_right c k))
    (le_of_eq (ap (λ z. z + M * d * c) (mul_assoc N c d) ∙ ap (λ z. N * (c * d) + z) (mul_assoc M d c ∙ ap (λ z. M * z) (mul_comm d c)) ∙ sym (add-mul N M (c * d))))

pub sub_most : (N M : ℕ) → N + M ≤ 2 ^ prec binary64 → (x y : Float) → Bounded N x → Bounded M y → Bounded (N + M) (sub binary64 x y)
unfolding sub add neg
sub_most N M held nan y X Y = absurd X.most
sub_most N M held (inf s) y X Y = absurd X.most
sub_most N M held (fin s m e) nan X Y = absurd Y.most
sub_most N M held (fin s m e) (inf t) X Y = absurd Y.most
sub_most N M held (fin s m e) (fin t n d) X Y =
    sum_most (N + M) held s (m * up e * down d) (not t) (n * up d * down e) (down e * down d) (mul-pos (down_pos e) (down_pos d))
    (common (m * up e) (n * up d) (down e) (down d) N M X.most.1 Y.most.1)

-- a square is not negative
pub square_most : (N : ℕ) → N * N ≤ 2 ^ prec binary64 → (x : Float) → Bounded N x → Most false (N * N) (mul binary64 x x)
unfolding mul
square_most N held nan X = absurd X.most
square_most N held (inf s) X = absurd X.most
square_most N held (fin s m e) X =
    let h = le_trans (mul-le-mul X.most.1 X.most.1) (le_of_eq (mul-mul-mul_comm N (down e) N (down e))) in
    rw (alike s) (round_most (N * N) held (m * up e * (m * up e)) (down e * down e) (mul-pos (down_pos e) (down_pos e)) h false)
  where
    alike : (s : Bool) → unlike s s ≡ false
    alike true = refl
    alike false = refl

pub add_most : (N M : ℕ) → N + M ≤ 2 ^ prec binary64 → (x y : Float) → Most false N x → Most false M y → Most false (N + M) (add binary64 x y)
unfolding add sum
add_most N M held nan y X Y = absurd X
add_most N M held (inf s) y X Y = absurd X
add_most N M held (fin s m e) nan X Y = absurd Y
add_most N M held (fin s m e) (inf t) X Y = absurd Y
add_most N M held (fin true m e) (fin t n d) X Y = absurd (true≢false X.0)
add_most N M held (fin false m e) (fin true n d) X Y = absurd (true≢false Y.0)
add_most N M held (fin false m e) (fin false n d) X Y =
    round_most (N + M) held (m * up e * down d + n * up d * down e) (down e * down d) (mul-pos (down_pos e) (down_pos d))
    (common (m * up e) (n * up d) (down e) (down d) N M X.1 Y.1) false

-- ---- the limits
pub within_bounded : (x : Float) → within x ≡ true → Bounded farthest x
within_bounded x h = go x (within_limited x h)
  where
    go : (x : Float) → Limited x → Bounded farthest x
    go nan l = absurd l
    go (inf s) l = absurd l
    go (fin s m e) l = record { sign = s; most = (refl, l) }

-- what is not negative and at most N lies from 0 to N
pub most_between : (N : ℕ) → N ≤ 2 ^ prec binary64 → (x : Float) → Most false N x → (le (float_of 0) x ≡ true) × (le x (float_of N) ≡ true)
unfolding of_int
most_between N held nan M = absurd M
most_between N held (inf s) M = absurd M
most_between N held (fin s m e) M =
    let x = fin s m e in
    let own : HasValue x false (m * up e) (down e) = (M.0, refl) in
    let whole : (n : ℕ) → n ≤ 2 ^ prec binary64 → HasValue (round binary64 false n 1) false n 1 = round_whole binary64 false in (
      is_true (le (float_of 0) x) (le_of_values (float_of 0) x 0 1 (m * up e) (down e) (omega arith) (down_pos e) (whole 0 (omega arith)) own (omega arith)),
      is_true (le x (float_of N)) (le_of_values x (float_of N) (m * up e) (down e) N 1 (down_pos e) (omega arith) own (whole N held) (omega (arith, M.1))),
    )
