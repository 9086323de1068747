-- Where both ends' numbers are whole and the fraction is a whole number of 1,024ths, no operation of a placed crossing rounds.
use mathlib.Core.Path.{◌≡◌, refl, sym, ap, ◌∙◌, subst}
use Prim.Native.Nat.{ℕ, ◌+◌, ◌*◌, ◌≤◌}
use native.Mathlib.Nat.{le_of_mul-le-mul_right}
use native.Mathlib.Omega.{arith}
use mathlib.Core.Bool.{true, false}
use lib.Dec.{lit<, lit≤, ltb}
use lib.IntN.{ℤ, pos, nat_abs, ◌+ℤ◌, ◌-ℤ◌, ◌*ℤ◌, *ℤ_comm}
use lib.Ieee.{Float, nan, inf, fin, binary64, up, down, sub, mul, lt, of_int}
use lib.Ieee.Fits.{down_pos}
use borrow.Author.Tests.{ltb-true}
use Rattle.counting.proofs.Bools.{and_right, clash}
use Rattle.place.specs.Place.{float_of, farthest, within, interpolated}
use Rattle.place.proofs.Within.{within_limited}
use Rattle.places.specs.Numbers.{proper_fraction}
use Rattle.places.specs.Exact.{Exactly, fraction_parts}
use Rattle.places.proofs.Values.{Val, size_of, add_val, sub_val, mul_val, scale_val}

bounded : (x : Float) (z : ℤ) (c N : ℕ) → Exactly c x z → nat_abs z ≤ N → Val x z c N
bounded x z c N X l = record { sign = X.sign; size = X.size; has = X.has; is = X.is; small = subst (λ (k : ℕ). k ≤ N) (ap nat_abs (sym X.is) ∙ size_of X.sign X.size) l }

-- 1,024 times the placed number is 1024 u + k (v - u)
pub interpolated_exact : (U W S : Float) (u v k : ℤ) → Exactly 1 U u → Exactly 1 W v → Exactly fraction_parts S k
    → nat_abs u ≤ farthest → nat_abs v ≤ farthest → nat_abs k ≤ fraction_parts
    → Exactly fraction_parts (interpolated U W S) (pos fraction_parts *ℤ u +ℤ k *ℤ (v -ℤ u))
interpolated_exact U W S u v k hU hV hS lu lv lk =
    let f = binary64 in
    let VU = bounded U u 1 farthest hU lu in
    let D = sub_val f W U v u 0 farthest farthest (lit≤ tt) (lit< tt) (bounded W v 1 farthest hV lv) VU in
    let M = mul_val f S (sub f W U) k (v -ℤ u) 10 0 fraction_parts (farthest + farthest) (lit≤ tt) (lit< tt) (bounded S k fraction_parts fraction_parts hS lk) D in
    let R = add_val f U (mul f S (sub f W U)) (u *ℤ pos fraction_parts) (k *ℤ (v -ℤ u)) 10 (farthest * fraction_parts) (fraction_parts * (farthest + farthest)) (lit≤ tt) (lit< tt) (scale_val U u 1 farthest fraction_parts VU) M in
    record { sign = R.sign; size = R.size; has = R.has; is = R.is ∙ ap (λ (z : ℤ). z +ℤ k *ℤ (v -ℤ u)) (*ℤ_comm u (pos fraction_parts)) }

size_is : {x : Float} {z : ℤ} {c : ℕ} (X : Exactly c x z) → nat_abs z ≡ X.size
size_is X = ap nat_abs (sym X.is) ∙ size_of X.sign X.size

-- the limits of rows 16 and 17 are limits on such numbers
pub within_whole : (x : Float) (z : ℤ) → Exactly 1 x z → within x ≡ true → nat_abs z ≤ farthest
within_whole nan z X h = absurd X.has
within_whole (inf s) z X h = absurd X.has
within_whole (fin s m e) z X h =
    let l : X.size * down e ≤ farthest * down e = omega (arith, within_limited (fin s m e) h, X.has.1) in
    subst (λ k. k ≤ farthest) (sym (size_is X)) (le_of_mul-le-mul_right l (down_pos e))

pub proper_part : (x : Float) (z : ℤ) → Exactly fraction_parts x z → proper_fraction x ≡ true → nat_abs z ≤ fraction_parts
unfolding proper_fraction of_int lt
proper_part nan z X h = absurd X.has
proper_part (inf s) z X h = absurd X.has
proper_part (fin true m e) z X h = clash h refl
proper_part (fin false m e) z X h =
    let n = m * up e * 1 in
    let a = ltb-true n (1 * down e) (and_right (lt (float_of 0) (fin false m e)) (ltb n (1 * down e)) h) in
    let l : X.size * down e ≤ fraction_parts * down e = omega (arith, a, X.has.1) in
    subst (λ k. k ≤ fraction_parts) (sym (size_is X)) (le_of_mul-le-mul_right l (down_pos e))
