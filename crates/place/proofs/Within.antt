-- What the limit of a point's numbers says of a float's size.
use Rattle.std.proofs.Common.{◌≡◌, ℕ, ◌*◌, ◌≤◌, Bool, true, false, ◌&&◌, ◌||◌, eqb, ltb, pos, neg_ℤ, sym, refl, ⊎_elim, le_trans, le_of_eq, le_of_lt, mul-one, ltb-true, eqb-true}
use lib.Ieee.{Float, nan, inf, fin, binary64, up, down, lt, le, eq, of_int}
use Rattle.counting.proofs.Bools.{and_left, and_right, or_cases, clash}
use Rattle.place.specs.Place.{float_of, farthest, within}

-- finite, and of a size up to the limit
abbrev pub Limited : Float → Type 0
Limited nan = ⊥
Limited (inf s) = ⊥
Limited (fin s m e) = m * up e ≤ farthest * down e

-- a test for less, or for something that says equal
pub at_most : (a b : ℕ) (q : Bool) → (q ≡ true → a ≡ b) → (ltb a b || q) ≡ true → a ≤ b
at_most a b q f h = ⊎_elim (λ e. le_of_lt (ltb-true a b e)) (λ e. le_of_eq (f e)) (or_cases (ltb a b) q h)

pub within_limited : (x : Float) → within x ≡ true → Limited x
unfolding within of_int le lt eq
within_limited nan h = clash h refl
within_limited (inf true) h = clash h refl
within_limited (inf false) h = clash h refl
within_limited (fin true m e) h =
    let n = m * up e * 1 in
    let b = farthest * down e in
    le_trans (le_of_eq (sym (mul-one (m * up e))))
    (at_most n b (eqb b n && true) (λ q. sym (eqb-true b n (and_left (eqb b n) true q))) (and_left (ltb n b || (eqb b n && true)) (le (fin true m e) (float_of farthest)) h))
within_limited (fin false m e) h =
    let n = m * up e * 1 in
    let b = farthest * down e in
    le_trans (le_of_eq (sym (mul-one (m * up e))))
    (at_most n b (eqb n b && true) (λ q. eqb-true n b (and_left (eqb n b) true q)) (and_right (le (of_int binary64 (neg_ℤ (pos farthest))) (fin false m e)) (ltb n b || (eqb n b && true)) h))
