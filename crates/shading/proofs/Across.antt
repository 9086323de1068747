-- Laws of labels seen across edges.
use Prim.Native.Nat.{ℕ, ◌+◌, ◌%◌}
use mathlib.Core.Path.{◌≡◌, sym, ap, ◌∙◌}
use native.Mathlib.Omega.{arith}
use Rattle.shading.specs.work.Work.{across}

pub across_twice : (s t h : ℕ) → across s (across t h) ≡ across (s + t) h
across_twice s t h = omega arith

-- only whether the count is odd matters
pub across_like : (s t h : ℕ) → s % 2 ≡ t % 2 → across s h ≡ across t h
across_like s t h e = omega arith

pub bit_odd : (s : ℕ) → s % 2 ≡ s % 2 % 2
bit_odd s = omega arith

pub across_even : (s h : ℕ) → s % 2 ≡ 0 → across s h ≡ h
across_even s h e = omega arith

pub across_odd : (s h : ℕ) → s % 2 ≡ 1 → across s h ≡ h → ⊥
across_odd s h e f = omega arith

-- both ways
pub across_back : (s x y : ℕ) → x ≡ across s y → y ≡ across s x
across_back s x y e = sym (ap (across s) e ∙ across_twice s s y ∙ across_even (s + s) y (omega arith))

regroup : (a b c : ℕ) → a + (c + b) ≡ a + b + c
regroup a b c = omega arith

-- x and y are seen from p and q, and from each other
pub across_between : (a b c p q x y : ℕ) → x ≡ across a p → y ≡ across b q → x ≡ across c y → p ≡ across (a + b + c) q
across_between a b c p q x y e f g =
    across_back a x p e ∙ ap (across a) (g ∙ ap (across c) f ∙ across_twice c b q) ∙ across_twice a (c + b) q ∙ ap (λ s. across s q) (regroup a b c)
