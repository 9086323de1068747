-- Two steps that are the same but for the numbers of their crossings have the same loops: what is summed over the loops of the one is summed over
-- those of the other, where it does not depend on the crossing that a loop starts from.
use Prim.Native.Nat.{ℕ, zero, suc, ◌+◌, ◌*◌, ◌/◌, ◌%◌, ◌≤◌, ◌<◌}
use mathlib.Core.Path.{◌≡◌, refl, sym, ap, ◌∙◌, subst}
use mathlib.Core.Logic.{◌≢◌, ⊎_elim}
use mathlib.Core.Bool.{Bool, true, false}
use native.Mathlib.Nat.{eq-zero-or-pos, mul-one, mul-zero}
use native.Mathlib.Omega.{arith}
use lib.Dec.{ltb}
use borrow.Author.Tests.{lt-ltb, ltb-true, ltb-false}
use Rattle.counting.specs.Pick.{pick}
use Rattle.counting.specs.Lists.{total, tally, it}
use Rattle.counting.proofs.Range.{total_ext, total_zero, total_same, total_single, total_swap, total_times}
use Rattle.counting.proofs.Lists.{weigh_numbers, tally_over}
use Rattle.counting.proofs.Onto.{total_onto}
use Rattle.walk.specs.Darts.{half, rev, Live, Loop, On, of_crossing}
use Rattle.walk.specs.claims.Claims.{Darts, flat}
use Rattle.walk.specs.Walk.{size, loop_at}
use Rattle.walk.proofs.Iterate.{it_suc, weigh_orbit, all_orbit}
use Rattle.walk.proofs.Curve.{Next, on_walk, on_start}
use Rattle.walk.proofs.Found.{size_live}
use Rattle.walk.proofs.Once.{In, listed, same_start, tally_in, counted_in, closed_in, closed_once}

-- a dart under new numbers of the crossings
unfoldable pub lift : (ℕ → ℕ) → ℕ → ℕ
lift f d = 2 * f (d / 2) + d % 2

-- the step s becomes the step t where crossing x becomes f x; g leads back
pub record Relabels (N : ℕ) (s t f g : ℕ → ℕ) : Type 0 where
  pub below : (x : ℕ) → x < N → f x < N
  pub back : (x : ℕ) → x < N → g (f x) ≡ x
  pub steps : (d : ℕ) → d < 2 * N → s d < 2 * N → t (lift f d) ≡ lift f (s d)

lift_half : (f : ℕ → ℕ) (d : ℕ) → half (lift f d) ≡ f (half d)
unfolding lift
lift_half f d = omega arith

module _ (N : ℕ) (s t f g : ℕ → ℕ) (R : Relabels N s t f g) where
  lift_lt : (d : ℕ) → d < 2 * N → lift f d < 2 * N
  unfolding lift
  lift_lt d l = omega (arith, R.below (d / 2) (omega arith))

  lift_back : (d : ℕ) → d < 2 * N → lift g (lift f d) ≡ d
  unfolding lift
  lift_back d l =
      let e : (2 * f (d / 2) + d % 2) / 2 ≡ f (d / 2) = omega arith in
      let b = R.back (d / 2) (omega arith) in
      rw (e, b) (omega arith)

  it_lift : (k d : ℕ) → Live (2 * N) s d k → it t k (lift f d) ≡ lift f (it s k d)
  unfolding it
  it_lift zero d live = refl
  it_lift (suc k) d live =
      it_suc t k (lift f d) ∙ ap t (it_lift k d (λ i h. live i (omega arith)))
      ∙ R.steps (it s k d) (live k (omega arith)) (subst (λ x. x < 2 * N) (it_suc s k d) (live (suc k) (omega arith)))
      ∙ ap (lift f) (sym (it_suc s k d))

  loop_lift : {d k : ℕ} → Loop (2 * N) s d k → Loop (2 * N) t (lift f d) k
  unfolding it
  loop_lift {d} {k} L =
      let to : (i : ℕ) → i ≤ k → it t i (lift f d) ≡ lift f (it s i d) = λ i h. it_lift i d (λ j q. L.live j (omega arith)) in
      record {
        pos = L.pos;
        live = λ i h. rw (to i h) (lift_lt (it s i d) (L.live i h));
        home = to k (omega arith) ∙ ap (lift f) L.home;
        first = λ i z h e. L.first i z h (sym (lift_back (it s i d) (L.live i (omega arith))) ∙ ap (lift g) (sym (to i (omega arith)) ∙ e) ∙ lift_back d (L.live 0 (omega arith)));
      }

  on_lift : {d k x : ℕ} → Loop (2 * N) s d k → On s half d k x → On t half (lift f d) k (f x)
  on_lift {d} L o = record {
    at = o.at;
    at_lt = o.at_lt;
    is = ap half (it_lift o.at d (λ j q. L.live j (omega (arith, o.at_lt)))) ∙ lift_half f (it s o.at d) ∙ ap f o.is;
  }

-- the loop from p in the one and the loop from q in the other, which has p's new number on it, are the same
module _ (N : ℕ) (s t f g : ℕ → ℕ) (Ds : Darts (2 * N) N s rev half) (Dt : Darts (2 * N) N t rev half) (R : Relabels N s t f g) (Q : Relabels N t s g f)
    (p q : ℕ) (lp : p < N) (lq : q < N) where
  abbrev Ls : 0 < size N s p → Loop (2 * N) s (2 * p) (size N s p)
  Ls h = (listed N s rev Ds p lp h).0

  abbrev Lt : 0 < size N t q → Loop (2 * N) t (2 * q) (size N t q)
  Lt h = (listed N t rev Dt q lq h).0

  -- then q's old number is on the loop from p
  shared : 0 < size N s p → In N t rev Dt q (f p) → In N s rev Ds p (g q)
  unfolding it
  shared h o =
      let K = Lt (omega (arith, o.at_lt)) in
      let u = on_lift N t s g f Q K o in
      let e : half (lift g (2 * q)) ≡ g q = lift_half g (2 * q) ∙ ap g (omega arith) in
      let z : On s half (2 * p) (size N s p) (half (it s u.at (lift g (2 * q)))) = record { at = 0; at_lt = h; is = sym (u.is ∙ R.back p lp ∙ omega arith) } in
      rw e at (on_start (2 * N) N s rev half Ds (Ls h) (loop_lift N t s g f Q K) u.at (omega (arith, u.at_lt)) z)

  -- and what is on the one is on the other
  forth : In N t rev Dt q (f p) → (x : ℕ) → In N s rev Ds p x → In N t rev Dt q (f x)
  unfolding Next
  forth o x u =
      let L = Ls (omega (arith, u.at_lt)) in
      let v = on_lift N s t f g R L u in
      let e : f p ≡ half (lift f (2 * p)) = sym (lift_half f (2 * p) ∙ ap f (omega arith)) in
      let w = (on_walk (2 * N) N t rev half Dt (Lt (omega (arith, o.at_lt))) v.at (lift f (2 * p)) (lift_lt N s t f g R (2 * p) (omega arith)) (rw (← e) o)).1 in
      rw v.is at w

module _ (N : ℕ) (s t f g : ℕ → ℕ) (Ds : Darts (2 * N) N s rev half) (Dt : Darts (2 * N) N t rev half) (R : Relabels N s t f g) (Q : Relabels N t s g f) where
  -- where one loop's start is on the other, the other's is on the one
  abbrev InS : ℕ → ℕ → Type 0
  InS = In N s rev Ds

  abbrev InT : ℕ → ℕ → Type 0
  InT = In N t rev Dt

  module _ (p q : ℕ) (lp : p < N) (lq : q < N) (h : 0 < size N s p) (o : InT q (f p)) where
    back : (y : ℕ) → InT q y → InS p (g y)
    back = forth N t s g f Dt Ds Q R q p lq lp (shared N s t f g Ds Dt R Q p q lp lq h o)

    tally_same : (x : ℕ) → x < N → tally (of_crossing x) (loop_at N s p) ≡ tally (of_crossing (f x)) (loop_at N t q)
    tally_same x l =
        ⊎_elim
        (λ (e : tally (of_crossing x) (loop_at N s p) ≡ 0). ⊎_elim
        (λ (z : tally (of_crossing (f x)) (loop_at N t q) ≡ 0). e ∙ sym z)
        (λ (m : 0 < tally (of_crossing (f x)) (loop_at N t q)). absurd (omega (arith, tally_in N s rev Ds p x lp (rw (R.back x l) at (back (f x) (counted_in N t rev Dt q (f x) m))))))
        (eq-zero-or-pos (tally (of_crossing (f x)) (loop_at N t q))))
        (λ (m : 0 < tally (of_crossing x) (loop_at N s p)).
        (let u = counted_in N s rev Ds p x m in
        tally_in N s rev Ds p x lp u ∙ sym (tally_in N t rev Dt q (f x) lq (forth N s t f g Ds Dt R Q p q lp lq o x u))))
        (eq-zero-or-pos (tally (of_crossing x) (loop_at N s p)))

    apart : (i j : ℕ) → i < j → j < N → f i ≢ f j
    apart i j a b e = omega (arith, sym (R.back i (omega arith)) ∙ ap g e ∙ R.back j b)

    -- what is summed over the crossings of the loop
    pub sum_same : (k : ℕ → ℕ) → total (λ i. k (f (half (it s i (2 * p))))) (size N s p) 0 ≡ total (λ i. k (half (it t i (2 * q)))) (size N t q) 0
    unfolding loop_at
    sum_same k =
        sym (weigh_orbit (λ d. k (f (half d))) s (size N s p) (2 * p))
        ∙ sym (weigh_numbers half N (λ x. k (f x)) (loop_at N s p) (all_orbit (λ d. half d < N) s (size N s p) (2 * p) (λ i l. omega (arith, size_live N s p i lp l))))
        ∙ total_ext (λ x. k (f x) * tally (of_crossing x) (loop_at N s p)) (λ x. k (f x) * tally (of_crossing (f x)) (loop_at N t q)) N 0 (λ x _ l. ap (λ m. k (f x) * m) (tally_same x (omega arith)))
        ∙ total_onto N f R.below apart (λ x. k x * tally (of_crossing x) (loop_at N t q))
        ∙ weigh_numbers half N k (loop_at N t q) (all_orbit (λ d. half d < N) t (size N t q) (2 * q) (λ i l. omega (arith, size_live N t q i lq l)))
        ∙ weigh_orbit (λ d. k (half d)) t (size N t q) (2 * q)

    pub size_same : size N s p ≡ size N t q
    size_same =
        omega (arith, total_same (λ i. 1) 1 (size N s p) 0 (λ i _ _. refl), total_same (λ i. 1) 1 (size N t q) 0 (λ i _ _. refl), sum_same (λ x. 1))

  -- what is summed over the loops
  module _ (G H : ℕ → ℕ) (same : (p q : ℕ) → p < N → q < N → 0 < size N s p → InT q (f p) → G p ≡ H q) where
    -- how often p's new number is on the loop from q
    abbrev on : ℕ → ℕ → ℕ
    on p q = tally (of_crossing (f p)) (loop_at N t q)

    abbrev part : ℕ → ℕ → ℕ
    part p q = pick (ltb 0 (size N s p)) (G p * on p q) 0

    -- for each loop of the one there is one of the other
    by_first : (p : ℕ) → p < N → pick (ltb 0 (size N s p)) (G p) 0 ≡ total (part p) N 0
    unfolding flat it
    by_first p lp = go (ltb 0 (size N s p)) refl
      where
        once : 0 < size N s p → total (on p) N 0 ≡ 1
        once h =
            let K = loop_lift N s t f g R (listed N s rev Ds p lp h).0 in
            let e : half (lift f (2 * p)) ≡ f p = lift_half f (2 * p) ∙ ap f (omega arith) in
            sym (tally_over (of_crossing (f p)) (loop_at N t) N 0) ∙ subst (λ x. tally (of_crossing x) (flat N t) ≡ 1) e (closed_once N t rev Dt (lift f (2 * p)) (size N s p) K 0)

        go : (b : Bool) → ltb 0 (size N s p) ≡ b → pick b (G p) 0 ≡ total (λ q. pick b (G p * on p q) 0) N 0
        go true e = sym (total_times (G p) (on p) N 0 ∙ ap (λ m. G p * m) (once (ltb-true 0 (size N s p) e)) ∙ mul-one (G p))
        go false e = sym (total_zero (λ q. 0) N 0 (λ q _ _. refl))

    -- nothing is on what is no loop
    part_none : (p q : ℕ) → (0 < size N s p → InT q (f p) → ⊥) → part p q ≡ 0
    part_none p q out = go (ltb 0 (size N s p)) refl
      where
        go : (b : Bool) → ltb 0 (size N s p) ≡ b → pick b (G p * on p q) 0 ≡ 0
        go true e =
            ⊎_elim (λ (z : on p q ≡ 0). ap (λ m. G p * m) z ∙ mul-zero (G p))
            (λ (m : 0 < on p q). absurd (out (ltb-true 0 (size N s p) e) (counted_in N t rev Dt q (f p) m)))
            (eq-zero-or-pos (on p q))
        go false e = refl

    -- and for each of the other one of the one
    module _ (q : ℕ) (lq : q < N) where
      found : 0 < size N t q → total (λ p. part p q) N 0 ≡ H q
      found h =
          let (p, lp, v) = closed_in N s rev Ds (lift g (2 * q)) (size N t q) (loop_lift N t s g f Q (listed N t rev Dt q lq h).0) in
          let u : InS p (g q) = subst (λ x. InS p x) (lift_half g (2 * q) ∙ ap g (omega arith)) v in
          let hp : 0 < size N s p = omega (arith, u.at_lt) in
          let o : InT q (f p) = shared N t s g f Dt Ds Q R q p lq lp h u in
          total_single (λ p. part p q) N 0 p (omega arith) (omega arith)
          (λ r _ lr n. part_none r q (λ hr x. n (same_start N s rev Ds r p (g q) (omega arith) lp (shared N s t f g Ds Dt R Q r q (omega arith) lq hr x) u)))
          ∙ rw (lt-ltb 0 (size N s p) hp) (ap (λ m. G p * m) (tally_in N t rev Dt q (f p) lq o) ∙ mul-one (G p) ∙ same p q lp lq hp o)

      by_second : total (λ p. part p q) N 0 ≡ pick (ltb 0 (size N t q)) (H q) 0
      by_second = go (ltb 0 (size N t q)) refl
        where
          go : (b : Bool) → ltb 0 (size N t q) ≡ b → total (λ p. part p q) N 0 ≡ pick b (H q) 0
          go true e = found (ltb-true 0 (size N t q) e)
          go false e = total_zero (λ p. part p q) N 0 (λ p _ _. part_none p q (λ h o. omega (arith, ltb-false 0 (size N t q) e, o.at_lt)))

    pub loops_same : total (λ p. pick (ltb 0 (size N s p)) (G p) 0) N 0 ≡ total (λ q. pick (ltb 0 (size N t q)) (H q) 0) N 0
    loops_same =
        total_ext (λ p. pick (ltb 0 (size N s p)) (G p) 0) (λ p. total (part p) N 0) N 0 (λ p _ l. by_first p (omega arith))
        ∙ total_swap part N N 0 0
        ∙ total_ext (λ q. total (λ p. part p q) N 0) (λ q. pick (ltb 0 (size N t q)) (H q) 0) N 0 (λ q _ l. by_second q (omega arith))
