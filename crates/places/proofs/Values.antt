-- Floats that are exact fractions: what a sum, a difference and a product of them are where the result has no more digits than the format keeps.
-- `Val x z c N` says that the float x is the whole number z divided by c, and that the size of z is at most N.
use mathlib.Core.Path.{◌≡◌, refl, sym, ap, ◌∙◌, subst}
use Prim.Native.Nat.{ℕ, zero, suc, ◌+◌, ◌-◌, ◌*◌, ◌^◌, ◌≤◌, ◌<◌}
use native.Mathlib.Nat.{le_refl, le_trans, lt_of_le_of_lt, lt_of_lt_of_le, le_of_lt, mul-zero, zero-mul, mul_assoc, mul_comm, mul_right_comm, mul-mul-mul_comm, mul-pos, mul-le-mul, add-mul, mul-lt-mul_of_pos_right, lt_of_mul-lt-mul_right, add-le-add, mul-sub, not-le_of_lt}
use native.Mathlib.Omega.{arith}
use mathlib.Core.Bool.{Bool, true, false, not, ◌&&◌, cond}
use lib.Dec.{ltb}
use lib.Pow.{pow-add, pow_pos, pow_mono, shl_lt}
use lib.IntN.{ℤ, pos, neg_ℤ, nat_abs, ◌+ℤ◌, ◌-ℤ◌, ◌*ℤ◌, neg_ℤ-neg_ℤ, neg_ℤ-+ℤ, +ℤ_assoc, +ℤ_invr, +ℤ_idl, +ℤ_comm, +ℤ-neg_ℤ_cancel}
use lib.Ieee.{Float, nan, inf, fin, Format, prec, emax, low, up, down, unlike, round, sum, add, sub, neg, mul}
use lib.Ieee.Digits.{back}
use lib.Ieee.Fits.{down_pos, reach}
use lib.Ieee.Exact.{HasValue, round_exact}
use lib.Ieee.Scale.{round_same}
use borrow.Author.Tests.{ltb-true, ltb-false}
use Rattle.places.specs.Exact.{signed}

pub record Val (x : Float) (z : ℤ) (c N : ℕ) : Type 0 where
  pub sign : Bool
  pub size : ℕ
  pub has : HasValue x sign size c
  pub is : signed sign size ≡ z
  pub small : size ≤ N

-- ---- integers
less : (a b : ℕ) → a < b → neg_ℤ (pos (b - a)) ≡ pos a +ℤ neg_ℤ (pos b)
less a b h =
    let e : a + (b - a) ≡ b = omega arith in
    sym
    (ap (λ (k : ℕ). pos a +ℤ neg_ℤ (pos k)) (sym e)
    ∙ ap (λ (z : ℤ). pos a +ℤ z) (neg_ℤ-+ℤ (pos a) (pos (b - a)))
    ∙ sym (+ℤ_assoc (pos a) (neg_ℤ (pos a)) (neg_ℤ (pos (b - a))))
    ∙ ap (λ (z : ℤ). z +ℤ neg_ℤ (pos (b - a))) (+ℤ_invr (pos a))
    ∙ +ℤ_idl (neg_ℤ (pos (b - a))))

more : (a b : ℕ) → b ≤ a → pos (a - b) ≡ pos a +ℤ neg_ℤ (pos b)
more a b h =
    let e : a - b + b ≡ a = omega arith in
    sym (ap (λ (k : ℕ). pos k +ℤ neg_ℤ (pos b)) (sym e) ∙ +ℤ-neg_ℤ_cancel (pos (a - b)) (pos b))

neg_signed : (s : Bool) (n : ℕ) → signed (not s) n ≡ neg_ℤ (signed s n)
neg_signed false n = refl
neg_signed true n = sym (neg_ℤ-neg_ℤ (pos n))

mul_signed : (s : Bool) (a : ℕ) (t : Bool) (b : ℕ) → signed (unlike s t) (a * b) ≡ signed s a *ℤ signed t b
mul_signed false a false b = refl
mul_signed false a true zero = rw (mul-zero a)
mul_signed false a true (suc b) = refl
mul_signed true zero false b = rw (zero-mul b)
mul_signed true (suc a) false b = refl
mul_signed true zero true zero = refl
mul_signed true zero true (suc b) = rw (zero-mul (suc b))
mul_signed true (suc a) true zero = rw (mul-zero (suc a))
mul_signed true (suc a) true (suc b) = refl

pub size_of : (s : Bool) (n : ℕ) → nat_abs (signed s n) ≡ n
size_of false n = refl
size_of true zero = refl
size_of true (suc n) = refl

-- ---- a fraction of a power of two, of no more digits than the format keeps, is not rounded
round_val : (f : Format) (s : Bool) (n p : ℕ) → p ≤ low f → n < 2 ^ prec f → HasValue (round f s n (2 ^ p)) s n (2 ^ p)
round_val f s n p P N =
    let j = low f - p in
    let e : n * 2 ^ low f ≡ n * 2 ^ j * 2 ^ p = ap (λ (k : ℕ). n * 2 ^ k) (sym (back (low f) p P)) ∙ ap (λ (k : ℕ). n * k) (pow-add 2 j p) ∙ sym (mul_assoc n (2 ^ j) (2 ^ p)) in
    round_exact f s n (2 ^ p) n j (pow_pos p) N
    (lt_of_lt_of_le (shl_lt (prec f) j N) (pow_mono (most (prec f) (low f) p (suc (emax f)) (reach f)))) e
  where
    most : (a l q m : ℕ) → a ≤ m → a + (l - q) ≤ l + m
    most a l q m h = omega arith

sub_mul : (x y k : ℕ) → (x - y) * k ≡ x * k - y * k
sub_mul x y k = mul_comm (x - y) k ∙ mul-sub k x y ∙ ap (λ (z : ℕ). z - k * y) (mul_comm k x) ∙ ap (λ (z : ℕ). x * k - z) (mul_comm k y)

tests : (A B a b : ℕ) → (A < B → a < b) → (a < b → A < B) → ltb A B ≡ ltb a b
tests A B a b g h = go (ltb A B) (ltb a b) refl refl
  where
    go : (q r : Bool) → ltb A B ≡ q → ltb a b ≡ r → q ≡ r
    go true true d e = refl
    go true false d e = absurd (not-le_of_lt (g (ltb-true A B d)) (ltb-false a b e))
    go false true d e = absurd (not-le_of_lt (h (ltb-true a b e)) (ltb-false A B d))
    go false false d e = refl

-- ---- a sum sees only the values of its fractions
module _ (f : Format) (s t : Bool) (A a B b C c : ℕ) (Cp : 0 < C) (cp : 0 < c) (ea : A * c ≡ a * C) (eb : B * c ≡ b * C) where
  both : (A + B) * c ≡ (a + b) * C
  both = add-mul A B c ∙ ap (λ (k : ℕ). k + B * c) ea ∙ ap (λ (k : ℕ). a * C + k) eb ∙ sym (add-mul a b C)

  lt_to : A < B → a < b
  lt_to h = lt_of_mul-lt-mul_right C (subst (λ (k : ℕ). k < b * C) ea (subst (λ (k : ℕ). A * c < k) eb (mul-lt-mul_of_pos_right h cp)))

  lt_from : a < b → A < B
  lt_from h = lt_of_mul-lt-mul_right c (subst (λ (k : ℕ). k < B * c) (sym ea) (subst (λ (k : ℕ). a * C < k) (sym eb) (mul-lt-mul_of_pos_right h Cp)))

  gt_to : B < A → b < a
  gt_to h = lt_of_mul-lt-mul_right C (subst (λ (k : ℕ). k < a * C) eb (subst (λ (k : ℕ). B * c < k) ea (mul-lt-mul_of_pos_right h cp)))

  gt_from : b < a → B < A
  gt_from h = lt_of_mul-lt-mul_right c (subst (λ (k : ℕ). k < A * c) (sym eb) (subst (λ (k : ℕ). b * C < k) (sym ea) (mul-lt-mul_of_pos_right h Cp)))

  less_by : (B - A) * c ≡ (b - a) * C
  less_by = sub_mul B A c ∙ ap (λ (k : ℕ). k - A * c) eb ∙ ap (λ (k : ℕ). b * C - k) ea ∙ sym (sub_mul b a C)

  more-by : (A - B) * c ≡ (a - b) * C
  more-by = sub_mul A B c ∙ ap (λ (k : ℕ). k - B * c) ea ∙ ap (λ (k : ℕ). a * C - k) eb ∙ sym (sub_mul a b C)

  sum_same : sum f s A t B C ≡ sum f s a t b c
  unfolding sum
  sum_same =
      let l1 : ltb A B ≡ ltb a b = tests A B a b lt_to lt_from in
      let l2 : ltb B A ≡ ltb b a = tests B A b a gt_to gt_from in
      rw (l1, l2, round_same f s (A + B) C (a + b) c Cp cp both, round_same f t (B - A) C (b - a) c Cp cp less_by, round_same f (s && ltb b a) (A - B) C (a - b) c Cp cp more-by)

-- ---- the four operations on values
sum_val : (f : Format) (s : Bool) (a : ℕ) (t : Bool) (b p : ℕ) → p ≤ low f → a + b < 2 ^ prec f → Val (sum f s a t b (2 ^ p)) (signed s a +ℤ signed t b) (2 ^ p) (a + b)
unfolding sum
sum_val f false a false b p P N = record { sign = false; size = a + b; has = round_val f false (a + b) p P N; is = refl; small = le_refl (a + b) }
sum_val f true a true b p P N = record { sign = true; size = a + b; has = round_val f true (a + b) p P N; is = neg_ℤ-+ℤ (pos a) (pos b); small = le_refl (a + b) }
sum_val f false a true b p P N = go (ltb a b) refl
  where
    go : (r : Bool) → ltb a b ≡ r → Val (cond r (round f true (b - a) (2 ^ p)) (round f false (a - b) (2 ^ p))) (pos a +ℤ neg_ℤ (pos b)) (2 ^ p) (a + b)
    go true e = record { sign = true; size = b - a; has = round_val f true (b - a) p P (omega arith); is = less a b (ltb-true a b e); small = omega arith }
    go false e = record { sign = false; size = a - b; has = round_val f false (a - b) p P (omega arith); is = more a b (ltb-false a b e); small = omega arith }
sum_val f true a false b p P N = go (ltb a b) (ltb b a) refl refl
  where
    swap : pos b +ℤ neg_ℤ (pos a) ≡ neg_ℤ (pos a) +ℤ pos b
    swap = +ℤ_comm (pos b) (neg_ℤ (pos a))

    go : (r q : Bool) → ltb a b ≡ r → ltb b a ≡ q → Val (cond r (round f false (b - a) (2 ^ p)) (round f q (a - b) (2 ^ p))) (neg_ℤ (pos a) +ℤ pos b) (2 ^ p) (a + b)
    go true q e d = let h = ltb-true a b e in record { sign = false; size = b - a; has = round_val f false (b - a) p P (omega arith); is = more b a (le_of_lt h) ∙ swap; small = omega arith }
    go false true e d = record { sign = true; size = a - b; has = round_val f true (a - b) p P (omega arith); is = less b a (ltb-true b a d) ∙ swap; small = omega arith }
    go false false e d =
        let h = ltb-false a b e in
        let g = ltb-false b a d in
        let z : a - b ≡ b - a = omega arith in
        record { sign = false; size = a - b; has = round_val f false (a - b) p P (omega arith); is = ap pos z ∙ more b a g ∙ swap; small = omega arith }

recast : {x y : Float} {z w : ℤ} {c n N : ℕ} → y ≡ x → z ≡ w → n ≤ N → Val x z c n → Val y w c N
recast {x} {y} {z} {w} {c} {n} {N} e h l v = rw e (record { sign = v.sign; size = v.size; has = v.has; is = v.is ∙ h; small = le_trans v.small l })

of_sign : (s r : Bool) (n : ℕ) (z : ℤ) → s ≡ r → signed r n ≡ z → signed s n ≡ z
of_sign s r n z e h = ap (λ (q : Bool). signed q n) e ∙ h

crossed : (x u v a c : ℕ) → x * c ≡ a * u → x * v * c ≡ a * (u * v)
crossed x u v a c h = mul_right_comm x v c ∙ ap (λ (k : ℕ). k * v) h ∙ mul_assoc a u v

pub add_val : (f : Format) (x y : Float) (z w : ℤ) (p N M : ℕ) → p ≤ low f → N + M < 2 ^ prec f → Val x z (2 ^ p) N → Val y w (2 ^ p) M → Val (add f x y) (z +ℤ w) (2 ^ p) (N + M)
unfolding add
add_val f nan y z w p N M P B X Y = absurd X.has
add_val f (inf s) y z w p N M P B X Y = absurd X.has
add_val f (fin s m e) nan z w p N M P B X Y = absurd Y.has
add_val f (fin s m e) (inf t) z w p N M P B X Y = absurd Y.has
add_val f (fin s m e) (fin t n d) z w p N M P B X Y =
    let a = X.size in
    let b = Y.size in
    let ea = crossed (m * up e) (down e) (down d) a (2 ^ p) X.has.1 in
    let eb = crossed (n * up d) (down d) (down e) b (2 ^ p) Y.has.1 ∙ ap (λ (k : ℕ). b * k) (mul_comm (down d) (down e)) in
    let l = add-le-add X.small Y.small in
    recast
    (sum_same f s t (m * up e * down d) a (n * up d * down e) b (down e * down d) (2 ^ p) (mul-pos (down_pos e) (down_pos d)) (pow_pos p) ea eb)
    (ap (λ (k : ℤ). k +ℤ signed t b) (of_sign s X.sign a z X.has.0 X.is) ∙ ap (λ (k : ℤ). z +ℤ k) (of_sign t Y.sign b w Y.has.0 Y.is))
    l
    (sum_val f s a t b p P (lt_of_le_of_lt l B))

neg_val : (x : Float) (z : ℤ) (c N : ℕ) → Val x z c N → Val (neg x) (neg_ℤ z) c N
unfolding neg
neg_val nan z c N X = absurd X.has
neg_val (inf s) z c N X = absurd X.has
neg_val (fin s m e) z c N X = record { sign = not X.sign; size = X.size; has = (ap not X.has.0, X.has.1); is = neg_signed X.sign X.size ∙ ap neg_ℤ X.is; small = X.small }

pub sub_val : (f : Format) (x y : Float) (z w : ℤ) (p N M : ℕ) → p ≤ low f → N + M < 2 ^ prec f → Val x z (2 ^ p) N → Val y w (2 ^ p) M → Val (sub f x y) (z -ℤ w) (2 ^ p) (N + M)
unfolding sub
sub_val f x y z w p N M P B X Y = add_val f x (neg y) z (neg_ℤ w) p N M P B X (neg_val y w (2 ^ p) M Y)

pub mul_val : (f : Format) (x y : Float) (z w : ℤ) (p q N M : ℕ) → p + q ≤ low f → N * M < 2 ^ prec f → Val x z (2 ^ p) N → Val y w (2 ^ q) M → Val (mul f x y) (z *ℤ w) (2 ^ (p + q)) (N * M)
unfolding mul
mul_val f nan y z w p q N M P B X Y = absurd X.has
mul_val f (inf s) y z w p q N M P B X Y = absurd X.has
mul_val f (fin s m e) nan z w p q N M P B X Y = absurd Y.has
mul_val f (fin s m e) (inf t) z w p q N M P B X Y = absurd Y.has
mul_val f (fin s m e) (fin t n d) z w p q N M P B X Y =
    let a = X.size in
    let b = Y.size in
    let l = mul-le-mul X.small Y.small in
    let E : m * up e * (n * up d) * 2 ^ (p + q) ≡ a * b * (down e * down d) =
    ap (λ (k : ℕ). m * up e * (n * up d) * k) (pow-add 2 p q)
    ∙ mul-mul-mul_comm (m * up e) (n * up d) (2 ^ p) (2 ^ q)
    ∙ ap (λ (k : ℕ). k * (n * up d * 2 ^ q)) X.has.1
    ∙ ap (λ (k : ℕ). a * down e * k) Y.has.1
    ∙ mul-mul-mul_comm a (down e) b (down d) in
    recast
    (round_same f (unlike s t) (m * up e * (n * up d)) (down e * down d) (a * b) (2 ^ (p + q)) (mul-pos (down_pos e) (down_pos d)) (pow_pos (p + q)) E)
    (mul_signed s a t b ∙ ap (λ (k : ℤ). k *ℤ signed t b) (of_sign s X.sign a z X.has.0 X.is) ∙ ap (λ (k : ℤ). z *ℤ k) (of_sign t Y.sign b w Y.has.0 Y.is))
    l
    (record { sign = unlike s t; size = a * b; has = round_val f (unlike s t) (a * b) (p + q) P (lt_of_le_of_lt l B); is = refl; small = le_refl (a * b) })

-- the same float, over a larger denominator
pub scale_val : (x : Float) (z : ℤ) (c N d : ℕ) → Val x z c N → Val x (z *ℤ pos d) (c * d) (N * d)
scale_val nan z c N d X = absurd X.has
scale_val (inf s) z c N d X = absurd X.has
scale_val (fin s m e) z c N d X = record {
  sign = X.sign;
  size = X.size * d;
  has = (X.has.0, sym (mul_assoc (m * up e) c d) ∙ ap (λ (k : ℕ). k * d) X.has.1 ∙ mul_right_comm X.size (down e) d);
  is = scale_signed X.sign X.size d ∙ ap (λ (k : ℤ). k *ℤ pos d) X.is;
  small = mul-le-mul X.small (le_refl d);
}
  where
    scale_signed : (r : Bool) (n k : ℕ) → signed r (n * k) ≡ signed r n *ℤ pos k
    scale_signed false n k = refl
    scale_signed true zero k = rw (zero-mul k)
    scale_signed true (suc n) k = refl
