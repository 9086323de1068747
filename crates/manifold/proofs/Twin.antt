-- Of N sides, each of which occurs at exactly two places: the other place.
use Prim.Native.Nat.{ℕ, ◌<◌}
use mathlib.Core.Path.{◌≡◌, refl, sym, ap, ◌∙◌}
use mathlib.Core.Logic.{◌⊎◌, inl, inr, ◌≢◌, ⊎_elim}
use mathlib.Core.Bool.{Bool, true, false, not, ◌&&◌}
use native.Mathlib.Omega.{arith}
use lib.Dec.{eqb, ltb}
use borrow.Author.Tests.{eqb-true, eqb-false, ltb-true, ltb-false, not-true}
use Rattle.counting.specs.Lists.{one, total}
use Rattle.counting.specs.Search.{first}
use Rattle.counting.proofs.Bools.{and_left, and_right, clash}
use Rattle.counting.proofs.Range.{total_one, no_third}
use Rattle.counting.proofs.Search.{first_is, first_none}
use Rattle.manifold.specs.Triangle.{Side, same}
use Rattle.manifold.proofs.Triangle.{same_true, eq_same}

module _ (N : ℕ) (sd : ℕ → Side) where
  abbrev other : ℕ → ℕ → Bool
  other q r = same (sd q) (sd r) && not (eqb r q)

  unfoldable pub twin : ℕ → ℕ
  unfolding first
  twin q = first (other q) N

  module _ (two : (q : ℕ) → q < N → total (λ r. one (same (sd q) (sd r))) N 0 ≡ 2) where
    pub twin_is : (q : ℕ) → q < N → (twin q < N) × (twin q ≢ q) × (sd (twin q) ≡ sd q)
    unfolding twin
    twin_is q l = go (ltb (first (other q) N) N) refl
      where
        no : (r : ℕ) (x y : Bool) → same (sd q) (sd r) ≡ x → eqb r q ≡ y → (x && not y) ≡ false → r ≢ q → one x ≡ 0
        no r true true a b e w = absurd (w (eqb-true r q b))
        no r true false a b e w = clash refl e
        no r false y a b e w = refl

        go : (b : Bool) → ltb (first (other q) N) N ≡ b → (first (other q) N < N) × (first (other q) N ≢ q) × (sd (first (other q) N) ≡ sd q)
        go true b =
            let r = first (other q) N in
            let h : r < N = ltb-true r N b in
            let e : other q r ≡ true = first_is (other q) N h in (
              h,
              eqb-false r q (not-true (eqb r q) (and_right (same (sd q) (sd r)) (not (eqb r q)) e)),
              sym (same_true (sd q) (sd r) (and_left (same (sd q) (sd r)) (not (eqb r q)) e)),
            )
        go false b =
            absurd (omega (
              arith,
              two q l,
              total_one (λ r. one (same (sd q) (sd r))) N 0 q (omega arith) (omega arith) (ap one (eq_same (sd q) (sd q) refl))
                  (λ r u v w. no r (same (sd q) (sd r)) (eqb r q) refl refl (first_none (other q) N (ltb-false (first (other q) N) N b) r (omega arith)) w),
            ))

    pub twin_only : (q r : ℕ) → q < N → r < N → sd r ≡ sd q → (r ≡ q) ⊎ (r ≡ twin q)
    twin_only q r l m e = go (eqb r q) (eqb r (twin q)) refl refl
      where
        hit : (r : ℕ) → sd r ≡ sd q → 0 < one (same (sd q) (sd r))
        hit r e = rw (eq_same (sd q) (sd r) (sym e)) (omega arith)

        go : (x y : Bool) → eqb r q ≡ x → eqb r (twin q) ≡ y → (r ≡ q) ⊎ (r ≡ twin q)
        go true y a b = inl (eqb-true r q a)
        go false true a b = inr (eqb-true r (twin q) b)
        go false false a b =
            let (tl, tn, ts) = twin_is q l in
            absurd (no_third (λ r. one (same (sd q) (sd r))) N r q (twin q) (omega (arith, two q l)) m l tl
            (eqb-false r q a) (eqb-false r (twin q) b) (λ w. tn (sym w)) (hit r e) (hit q refl) (hit (twin q) ts))

    pub twin_twice : (q : ℕ) → q < N → twin (twin q) ≡ q
    twin_twice q l =
        let (tl, tn, ts) = twin_is q l in
        let (ul, un, us) = twin_is (twin q) tl in
        ⊎_elim (λ w. w) (λ w. absurd (un w)) (twin_only q (twin (twin q)) l ul (us ∙ ts))
