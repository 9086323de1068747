-- Each crossing that a walk passes is marked with the walk's start: a later walk that meets the mark is on no loop of its own.
use Prim.Native.Nat.{ℕ, zero, suc, ◌*◌, ◌≤◌, ◌<◌}
use mathlib.Core.Path.{◌≡◌, refl, ap, ◌∙◌, subst}
use mathlib.Core.Bool.{Bool, true, false}
use mathlib.Core.List.{List}
use native.Mathlib.Omega.{arith}
use lib.Dec.{eqb}
use borrow.Author.Tests.{eqb-true, eqb-false}
use lib.ListN.{get_or, set, length-set}
use lib.Seq.{get_or-set_same, get_or-set_other}
use Rattle.counting.specs.Lists.{it}
use Rattle.walk.specs.Darts.{half, Loop, On, Live}
use Rattle.walk.specs.claims.Claims.{Darts, Lowest}
use Rattle.walk.specs.Walk.{size}
pub use Rattle.walk.specs.work.Marks.{Passed, Marks}
use Rattle.walk.proofs.Iterate.{it_suc}
use Rattle.walk.proofs.Curve.{Next, on_walk, on_it}
use Rattle.walk.proofs.Found.{found}

pub marks_more : {N : ℕ} {s : ℕ → ℕ} {m : List ℕ} → Marks N s m → (q i x : ℕ) → Passed N s q i x → Marks N s (set m x q)
marks_more {N} {s} {m} M q i x P = record {
  long = omega (arith, length-set m x q, M.long);
  by = λ y a b. go y a b (eqb y x) refl;
}
  where
    go : (y : ℕ) → y < N → get_or (set m x q) y 0 < N → (b : Bool) → eqb y x ≡ b → (i : ℕ) × Passed N s (get_or (set m x q) y 0) i y
    go y a b true f = let e = eqb-true y x f in let g : get_or (set m x q) y 0 ≡ q = rw e (get_or-set_same m x q 0 (omega (arith, M.long))) in rw (g, e) (i, P)
    go y a b false f = let e = eqb-false y x f in let g : get_or (set m x q) y 0 ≡ get_or m y 0 = get_or-set_other m x y q 0 e in rw g (M.by y a (omega arith))

module _ (N : ℕ) (s rv : ℕ → ℕ) (D : Darts (2 * N) N s rv half) where
  -- back along a curve
  walk_back : (i d : ℕ) → Live (2 * N) s d i → it s i (rv (it s i d)) ≡ rv d
  unfolding it
  walk_back zero d l = refl
  walk_back (suc i) d l =
      let e : it s (suc i) d ≡ s (it s i d) = it_suc s i d in
      let b : s (rv (it s (suc i) d)) ≡ rv (it s i d) =
      ap (λ x. s (rv x)) e ∙ D.back (it s i d) (l i (omega arith)) (subst (λ x. x < 2 * N) e (l (suc i) (omega arith))) in
      ap (it s i) b ∙ walk_back i d (λ j h. l j (omega arith))

  -- a curve that comes to a loop starts on it, so not below the loop's least crossing
  passed_low : {p k q i x : ℕ} → Loop (2 * N) s (2 * p) k → Lowest s half (2 * p) k → Passed N s q i x → On s half (2 * p) k x → p ≤ q
  unfolding Next
  passed_low {p} {k} {q} {i} {x} L low P o =
      let y = it s i (2 * q) in
      let ly : y < 2 * N = P.live i (omega arith) in
      let c : half (rv y) ≡ x = D.cr_rv y ly ∙ P.is in
      let u = (on_walk (2 * N) N s rv half D L i (rv y) (D.rv_lt y ly) (rw c o)).1 in
      let w : half (it s i (rv y)) ≡ half (2 * q) = ap half (walk_back i (2 * q) P.live) ∙ D.cr_rv (2 * q) (omega (arith, P.start)) in
      omega (arith, w, low (half (it s i (rv y))) u)

  -- a walk from p that meets a mark of an earlier start does not come home
  pub met : (p k : ℕ) {q i x : ℕ} → p < N → Passed N s q i x → q < p → half (it s k (2 * p)) ≡ x → size N s p ≡ 0
  unfolding Next it
  met p k {q} {i} {x} l P h e = go (size N s p) refl
    where
      go : (n : ℕ) → size N s p ≡ n → n ≡ 0
      go zero f = refl
      go (suc r) f =
          let (L, low) = found N s rv D p r l f in
          let o : On s half (2 * p) (suc r) (half (it s k (2 * p))) = (on_walk (2 * N) N s rv half D L k (2 * p) (omega arith) (on_it (2 * N) N s rv half D L 0 (omega arith))).1 in
          absurd (omega (arith, passed_low L low P (rw e at o)))
