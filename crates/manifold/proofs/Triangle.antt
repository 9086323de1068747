-- Laws of corners, sides and triangles.
use Prim.Native.Nat.{ℕ, ◌+◌, ◌≤◌, ◌<◌}
use mathlib.Core.Path.{◌≡◌, refl, sym, ap, ap₂, ◌∙◌, subst}
use mathlib.Core.Logic.{◌≢◌}
use mathlib.Core.Bool.{Bool, true, false, ◌&&◌, ◌||◌}
use mathlib.Core.List.{List}
use native.Mathlib.Nat.{not-suc-le-zero}
use native.Mathlib.Omega.{arith}
use lib.Dec.{eqb}
use borrow.Author.Tests.{eq-eqb, eqb-true}
use Rattle.counting.specs.Lists.{one, tally}
use Rattle.counting.specs.work.Stored.{weigh}
use Rattle.counting.proofs.Bools.{and_left, and_right, clash, not_clash}
use Rattle.counting.proofs.Lists.{tally_weigh, weigh_mono}
use Rattle.manifold.specs.Triangle.{Corner, cross, middle, Side, seg, inner, same}
use Rattle.manifold.specs.work.Triangle.{next, alike}
use Rattle.manifold.specs.claims.Plain.{Tri, tri, side_of, has_side}

pub cross_middle : {x c p : ℕ} → cross x ≢ middle c p
cross_middle e = let z : ◌≡◌ {A = ℕ} 0 1 = cc in omega arith

pub seg_inner : {f l c p k : ℕ} → seg f l ≢ inner c p k
seg_inner e = let z : ◌≡◌ {A = ℕ} 0 1 = cc in omega arith

-- the tests decide equality
pub same_true : (a b : Side) → same a b ≡ true → a ≡ b
same_true (seg f a) (seg g b) e =
    ap₂ seg (eqb-true f g (and_left (eqb f g) (eqb a b) e)) (eqb-true a b (and_right (eqb f g) (eqb a b) e))
same_true (seg f a) (inner c p k) e = clash e refl
same_true (inner c p k) (seg g b) e = clash e refl
same_true (inner c p k) (inner d q l) e =
    let x = and_left (eqb c d && eqb p q) (eqb k l) e in
    let u : c ≡ d = eqb-true c d (and_left (eqb c d) (eqb p q) x) in
    let v : p ≡ q = eqb-true p q (and_right (eqb c d) (eqb p q) x) in
    let w : k ≡ l = eqb-true k l (and_right (eqb c d && eqb p q) (eqb k l) e) in
    rw (u, v, w)

same_refl : (a : Side) → same a a ≡ true
same_refl (seg f a) = rw (eq-eqb f f refl, eq-eqb a a refl)
same_refl (inner c p k) = rw (eq-eqb c c refl, eq-eqb p p refl, eq-eqb k k refl)

pub eq_same : (a b : Side) → a ≡ b → same a b ≡ true
eq_same a b e = subst (λ x. same a x ≡ true) e (same_refl a)

pub ne_same : (a b : Side) → a ≢ b → same a b ≡ false
ne_same a b n = not_clash (same a b) (λ e. n (same_true a b e))

-- a side that counts is that side
pub one_same : (a b : Side) → 0 < one (same a b) → a ≡ b
one_same a b = go (same a b) refl
  where
    go : (x : Bool) → same a b ≡ x → 0 < one x → a ≡ b
    go true e l = same_true a b e
    go false e l = absurd (not-suc-le-zero l)

pub alike_true : (a b : Corner) → alike a b ≡ true → a ≡ b
alike_true (cross g) (cross h) e = ap cross (eqb-true g h e)
alike_true (cross g) (middle c p) e = clash e refl
alike_true (middle c p) (cross h) e = clash e refl
alike_true (middle c p) (middle d q) e =
    ap₂ middle (eqb-true c d (and_left (eqb c d) (eqb p q) e)) (eqb-true p q (and_right (eqb c d) (eqb p q) e))

alike_refl : (a : Corner) → alike a a ≡ true
alike_refl (cross g) = eq-eqb g g refl
alike_refl (middle c p) = rw (eq-eqb c c refl, eq-eqb p p refl)

pub alike_false : (a b : Corner) → alike a b ≡ false → a ≢ b
alike_false a b e q = clash (subst (λ x. alike a x ≡ true) q (alike_refl a)) e

-- how many of a triangle's sides are σ
abbrev pub hits : Side → Tri → ℕ
hits σ (tri a b c r s t) = one (same σ r) + one (same σ s) + one (same σ t)

pub hits_is : (σ : Side) (v : Tri) → hits σ v ≡ one (same σ (side_of v 0)) + one (same σ (side_of v 1)) + one (same σ (side_of v 2))
hits_is σ (tri a b c r s t) = refl

-- a triangle that has σ has it at least once; exactly once where its sides differ
has_le : (σ : Side) (v : Tri) → one (has_side σ v) ≤ hits σ v
has_le σ (tri a b c r s t) = go (same σ r) (same σ s) (same σ t)
  where
    go : (x y z : Bool) → one (x || y || z) ≤ one x + one y + one z
    go true y z = omega arith
    go false true z = omega arith
    go false false z = omega arith

pub hits_one : (σ : Side) (v : Tri) → ((i : ℕ) → i < 3 → side_of v i ≢ side_of v (next i)) → one (has_side σ v) ≡ hits σ v
hits_one σ (tri a b c r s t) ne = go (same σ r) (same σ s) (same σ t) refl refl refl
  where
    go : (x y z : Bool) → same σ r ≡ x → same σ s ≡ y → same σ t ≡ z → one (x || y || z) ≡ one x + one y + one z
    go true true z p q w = absurd (ne 0 (omega arith) (sym (same_true σ r p) ∙ same_true σ s q))
    go true false true p q w = absurd (ne 2 (omega arith) (sym (same_true σ t w) ∙ same_true σ r p))
    go true false false p q w = refl
    go false true true p q w = absurd (ne 1 (omega arith) (sym (same_true σ s q) ∙ same_true σ t w))
    go false true false p q w = refl
    go false false true p q w = refl
    go false false false p q w = refl

pub tally_hits : (σ : Side) (l : List Tri) → tally (has_side σ) l ≤ weigh (hits σ) l
tally_hits σ l = omega (arith, tally_weigh (has_side σ) l, weigh_mono (λ v. one (has_side σ v)) (hits σ) l (has_le σ))
