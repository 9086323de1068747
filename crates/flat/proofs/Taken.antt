-- How many steps a curve has before it ends; and a curve between two ends.
use Prim.Native.Nat.{ℕ, zero, suc, ◌+◌, ◌*◌, ◌-◌, ◌≤◌, ◌<◌}
use mathlib.Core.Path.{◌≡◌, refl, sym, ap, ◌∙◌, subst}
use mathlib.Core.Logic.{◌≢◌}
use native.Mathlib.Decide.{dec_lt}
use native.Mathlib.Omega.{arith}
use borrow.Author.Tests.{lt-ltb, le-ltb}
use Rattle.counting.specs.Lists.{it}
use Rattle.walk.specs.Darts.{half, rev, Live, Loop, On}
use Rattle.walk.specs.claims.Claims.{Darts}
use Rattle.walk.proofs.Iterate.{it_suc, it_add}
use Rattle.walk.proofs.Curve as curve
use Rattle.walk.proofs.Step.{rev_rev}
use Rattle.flat.specs.Chain.{taken, steps, last_dart}
use Rattle.flat.specs.ChainClaims.{Path}

module _ (N : ℕ) (s : ℕ → ℕ) where
  taken_on : (n d : ℕ) → s d < 2 * N → taken N s (suc n) d ≡ suc (taken N s n (s d))
  unfolding taken
  taken_on n d h = rw (lt-ltb (s d) (2 * N) h, taken)

  taken_off : (n d : ℕ) → 2 * N ≤ s d → taken N s (suc n) d ≡ 0
  unfolding taken
  taken_off n d h = rw (le-ltb (s d) (2 * N) h, taken)

  pub taken_live : (n d i : ℕ) → i < taken N s n d → it s (suc i) d < 2 * N
  unfolding it taken
  taken_live zero d i h = absurd (omega arith)
  taken_live (suc n) d i h = elim (dec_lt (s d) (2 * N)) [
    | yes l ↦ go (taken_live n (s d)) i (rw (taken_on n d l) at h) l
    | no l ↦ absurd (omega (arith, taken_off n d (omega arith)))
  ]
    where
      go : ((i : ℕ) → i < taken N s n (s d) → it s (suc i) (s d) < 2 * N) → (i : ℕ) → i < suc (taken N s n (s d)) → s d < 2 * N → it s i (s d) < 2 * N
      go more zero h l = l
      go more (suc i) h l = more i (omega arith)

  -- where it ends
  pub taken_stop : (n d : ℕ) → taken N s n d < n → 2 * N ≤ it s (suc (taken N s n d)) d
  unfolding it
  taken_stop zero d h = absurd (omega arith)
  taken_stop (suc n) d h = elim (dec_lt (s d) (2 * N)) [
    | yes l ↦ rw (taken_on n d l) (taken_stop n (s d) (omega (arith, taken_on n d l)))
    | no l ↦ rw (taken_off n d (omega arith)) (omega arith)
  ]

  pub taken_is : (n k d : ℕ) → k < n → ((i : ℕ) → i < k → it s (suc i) d < 2 * N) → 2 * N ≤ it s (suc k) d → taken N s n d ≡ k
  unfolding it
  taken_is zero k d h live stop = absurd (omega arith)
  taken_is (suc n) zero d h live stop = taken_off n d stop
  taken_is (suc n) (suc k) d h live stop = taken_on n d (live 0 (omega arith)) ∙ ap suc (taken_is n k (s d) (omega arith) (λ i l. live (suc i) (omega arith)) stop)

  pub taken_all : (n d : ℕ) → ((i : ℕ) → i < n → it s (suc i) d < 2 * N) → taken N s n d ≡ n
  unfolding it taken
  taken_all zero d live = refl
  taken_all (suc n) d live = taken_on n d (live 0 (omega arith)) ∙ ap suc (taken_all n (s d) (λ i l. live (suc i) (omega arith)))

  pub taken_le : (n d : ℕ) → taken N s n d ≤ n
  unfolding taken
  taken_le zero d = omega arith
  taken_le (suc n) d = elim (dec_lt (s d) (2 * N)) [
    | yes l ↦ omega (arith, taken_on n d l, taken_le n (s d))
    | no l ↦ omega (arith, taken_off n d (omega arith))
  ]

module _ (N : ℕ) (s : ℕ → ℕ) (D : Darts (2 * N) N s rev half) where
  -- CURVES WITHOUT AN END

  loop_live : {p k : ℕ} → Loop (2 * N) s p k → (i : ℕ) → it s i p < 2 * N
  unfolding it
  loop_live L i = (curve.loop_later (2 * N) N s rev half D L i).live 0 (omega arith)

  pub loop_steps : {p k : ℕ} → Loop (2 * N) s p k → steps N s p ≡ N
  unfolding steps
  loop_steps {p} L = taken_all N s N p (λ i h. loop_live L (suc i))

  steps_live : (d : ℕ) → d < 2 * N → (i : ℕ) → i ≤ steps N s d → it s i d < 2 * N
  unfolding steps it
  steps_live d h zero l = h
  steps_live d h (suc i) l = taken_live N s N d i (omega arith)

  pub steps_le : (d : ℕ) → steps N s d ≤ N
  unfolding steps
  steps_le d = taken_le N s N d

  steps_stop : (d : ℕ) → steps N s d < N → 2 * N ≤ s (it s (steps N s d) d)
  unfolding steps
  steps_stop d a = rw (← it_suc s (taken N s N d) d) (taken_stop N s N d a)

  pub steps_loop : (d : ℕ) → d < 2 * N → steps N s d ≡ N → (k : ℕ) × Loop (2 * N) s d k
  steps_loop d h q = let (k, l, L) = curve.closes (2 * N) N s rev half D d (λ i m. steps_live d h i (omega arith)) in (k, L)

  -- and from each dart of a crossing of it
  pub on_steps : {p k : ℕ} → Loop (2 * N) s p k → (e : ℕ) → e < 2 * N → On s half p k (half e) → steps N s e ≡ N
  unfolding steps curve.Next
  on_steps L e h o = taken_all N s N e (λ i l. (curve.on_walk (2 * N) N s rev half D L (suc i) e h o).0)

  -- CURVES BETWEEN TWO ENDS

  walk_back : (i d : ℕ) → Live (2 * N) s d i → it s i (rev (it s i d)) ≡ rev d
  unfolding it
  walk_back zero d l = refl
  walk_back (suc i) d l =
      let e : it s (suc i) d ≡ s (it s i d) = it_suc s i d in
      let b : s (rev (it s (suc i) d)) ≡ rev (it s i d) =
      ap (λ x. s (rev x)) e ∙ D.back (it s i d) (l i (omega arith)) (subst (λ x. x < 2 * N) e (l (suc i) (omega arith))) in
      ap (it s i) b ∙ walk_back i d (λ j h. l j (omega arith))

  path_back : (d n : ℕ) → Live (2 * N) s d n → (i : ℕ) → i ≤ n → it s (n - i) (rev (it s n d)) ≡ rev (it s i d)
  path_back d n live i h =
      let e : it s n d ≡ it s (n - i) (it s i d) = ap (λ (n : ℕ). it s n d) (omega arith) ∙ it_add s i (n - i) d in
      ap (λ x. it s (n - i) (rev x)) e ∙ walk_back (n - i) (it s i d) (λ j m. subst (λ x. x < 2 * N) (it_add s i j d) (live (i + j) (omega arith)))

  module _ {d l : ℕ} (P : Path N s d l) where
    -- the way back
    pub path_rev : (i : ℕ) → i ≤ l → it s (l - i) (rev (it s l d)) ≡ rev (it s i d)
    path_rev = path_back d l P.live

    pub path_turn : Path N s (rev (it s l d)) l
    unfolding it
    path_turn = record {
      live = λ i h.
          let e : l - (l - i) ≡ i = omega arith in
          subst (λ n. it s n (rev (it s l d)) < 2 * N) e (rw (path_rev (l - i) (omega arith)) (D.rv_lt (it s (l - i) d) (P.live (l - i) (omega arith))));
      first = rw (rev_rev (it s l d)) P.last;
      last = let e : l - 0 ≡ l = omega arith in let q = rw e at (path_rev 0 (omega arith)) in rw q P.first;
    }

    -- it has fewer steps than there are crossings
    pub path_short : l < N
    path_short = elim (dec_lt l N) [
      | yes h ↦ h
      | no h ↦ absurd (go (curve.closes (2 * N) N s rev half D d (λ i m. P.live i (omega arith))))
    ]
      where
        go : (k : ℕ) × (k ≤ N) × Loop (2 * N) s d k → ⊥
        go (k, m, L) = omega (arith, P.last, it_suc s l d, loop_live L (suc l))

    -- the steps on from each of its darts, and where they lead
    pub path-steps : (i : ℕ) → i ≤ l → steps N s (it s i d) ≡ l - i
    unfolding steps
    path-steps i h =
        taken_is N s N (l - i) (it s i d) (omega (arith, path_short)) (λ j m. subst (λ x. x < 2 * N) (it_add s i (suc j) d) (P.live (i + suc j) (omega arith)))
        (let e : i + suc (l - i) ≡ suc l = omega arith in subst (λ x. 2 * N ≤ x) (sym (it_suc s l d) ∙ ap (λ (n : ℕ). it s n d) (sym e) ∙ it_add s i (suc (l - i)) d) P.last)

    pub path_last : (i : ℕ) → i ≤ l → last_dart N s (it s i d) ≡ it s l d
    unfolding last_dart
    path_last i h = rw (path-steps i h) (sym (it_add s i (l - i) d) ∙ ap (λ (n : ℕ). it s n d) (omega arith))

    -- the crossings are distinct
    pub path_distinct : (i j : ℕ) → i < j → j ≤ l → half (it s i d) ≢ half (it s j d)
    unfolding it
    path_distinct = curve.distinct (2 * N) N s rev half D d l P.live (λ i a b q. omega (arith, path-steps i b, path-steps 0 (omega arith), ap (steps N s) q))

  module _ {d l : ℕ} (P : Path N s d l) where
    -- and back
    back_at : (i : ℕ) → i ≤ l → it s (l - i) (rev (it s l d)) ≡ rev (it s i d)
    back_at i h = path_rev P i h

    pub path_back_steps : (i : ℕ) → i ≤ l → steps N s (rev (it s i d)) ≡ i
    path_back_steps i h = ap (steps N s) (sym (back_at i h)) ∙ path-steps (path_turn P) (l - i) (omega arith) ∙ omega arith

    pub path_back_last : (i : ℕ) → i ≤ l → last_dart N s (rev (it s i d)) ≡ rev d
    unfolding it
    path_back_last i h =
        let e : l - 0 ≡ l = omega arith in
        ap (last_dart N s) (sym (back_at i h)) ∙ path_last (path_turn P) (l - i) (omega arith) ∙ rw e at (back_at 0 (omega arith))

  on-first : {p k x : ℕ} → Loop (2 * N) s p k → half p ≡ x → On s half p k x
  unfolding it
  on-first L q = record { at = 0; at_lt = L.pos; is = q }

  -- EACH DART of a curve that ends lies between two ends
  pub record Between (e : ℕ) : Type 0 where
    pub d : ℕ
    pub l : ℕ
    pub at : ℕ
    pub path : Path N s d l
    pub within : at ≤ l
    pub is : it s at d ≡ e

  pub between : (e : ℕ) → e < 2 * N → steps N s e < N → Between e
  between e h a =
      record {
        d = start;
        l = steps N s (rev e) + steps N s e;
        at = steps N s (rev e);
        path = record {
          live = live;
          first = rw (rev_rev (it s (steps N s (rev e)) (rev e))) (steps_stop (rev e) b);
          last = rw (it_add s (steps N s (rev e)) (steps N s e) start, here) (steps_stop e a);
        };
        within = omega arith;
        is = here;
      }
    where
      start : ℕ
      start = rev (it s (steps N s (rev e)) (rev e))

      lr : rev e < 2 * N
      lr = D.rv_lt e h

      b : steps N s (rev e) < N
      b = elim (dec_lt (steps N s (rev e)) N) [
        | yes m ↦ m
        | no m ↦
            let q : steps N s (rev e) ≡ N = omega (arith, steps_le (rev e)) in
            let (k, L) = steps_loop (rev e) lr q in
            absurd (omega (arith, on_steps L e h (on-first L (D.cr_rv e h))))
      ]

      here : it s (steps N s (rev e)) start ≡ e
      here = walk_back (steps N s (rev e)) (rev e) (steps_live (rev e) lr) ∙ rev_rev e

      live : (i : ℕ) → i ≤ steps N s (rev e) + steps N s e → it s i start < 2 * N
      live i m = elim (dec_lt i (steps N s (rev e))) [
        | yes n ↦
            let q : steps N s (rev e) - (steps N s (rev e) - i) ≡ i = omega arith in
            let r = path_back (rev e) (steps N s (rev e)) (steps_live (rev e) lr) (steps N s (rev e) - i) (omega arith) in
            subst (λ n. it s n start < 2 * N) q (rw r (D.rv_lt (it s (steps N s (rev e) - i) (rev e)) (steps_live (rev e) lr (steps N s (rev e) - i) (omega arith))))
        | no n ↦
            let q : steps N s (rev e) + (i - steps N s (rev e)) ≡ i = omega arith in
            subst (λ n. it s n start < 2 * N) q (rw (it_add s (steps N s (rev e)) (i - steps N s (rev e)) start, here) (steps_live e h (i - steps N s (rev e)) (omega arith)))
      ]
