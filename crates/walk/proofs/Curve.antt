-- Laws of walks: a walk that does not end closes, its crossings are distinct, and loops that share a crossing share all.
use Prim.Native.Nat.{ℕ, zero, suc, ◌+◌, ◌-◌, ◌≤◌, ◌<◌}
use mathlib.Core.Path.{◌≡◌, refl, sym, ap, ◌∙◌, subst}
use mathlib.Core.Logic.{inl, inr, ◌≢◌, ⊎_elim}
use mathlib.Core.Bool.{Bool, true, false}
use native.Mathlib.Nat.{not-suc-le-zero, zero-add, suc-add, eq-or-lt_of_le, le_refl, le_trans, le_of_eq}
use native.Mathlib.Decide.{dec_lt}
use native.Mathlib.Omega.{arith}
use lib.Dec.{eqb, leb, ltb}
use borrow.Author.Tests.{eqb-true, eqb-false, leb-true, leb-false, ltb-true, ltb-false}
use Rattle.counting.proofs.Below.{trichotomy}
use Rattle.counting.proofs.Pigeon.{pigeonhole}
use Rattle.counting.proofs.Search.{Least, least}
use Rattle.counting.specs.Lists.{it}
use Rattle.walk.specs.claims.Claims.{Darts, Lowest}
use Rattle.walk.specs.Darts.{Live, Loop, On}
use Rattle.walk.proofs.Iterate.{it_suc, it_sub}

-- what holds of each i + 1 with i < n holds from 1 to n
from_one : (P : ℕ → Type 0) (n : ℕ) → ((i : ℕ) → i < n → P (suc i)) → (i : ℕ) → 0 < i → i ≤ n → P i
from_one P n h zero z l = absurd (not-suc-le-zero z)
from_one P n h (suc i) z l = h i l

-- where f is least on 0 to n
min_at : (f : ℕ → ℕ) (n : ℕ) → (i : ℕ) × (i ≤ n) × ((j : ℕ) → j ≤ n → f i ≤ f j)
min_at f zero = (0, omega arith, λ j h. subst (λ x. f 0 ≤ f x) (omega arith) (le_refl (f 0)))
min_at f (suc n) = go (min_at f n) (leb (f (suc n)) (f (min_at f n).0)) refl
  where
    go : (w : (i : ℕ) × (i ≤ n) × ((j : ℕ) → j ≤ n → f i ≤ f j)) (b : Bool) → leb (f (suc n)) (f w.0) ≡ b
        → (i : ℕ) × (i ≤ suc n) × ((j : ℕ) → j ≤ suc n → f i ≤ f j)
    go w true e = (
      suc n,
      omega arith,
      λ j h. ⊎_elim (λ (q : j ≡ suc n). le_of_eq (ap f (sym q)))
          (λ (l : j < suc n). le_trans (leb-true (f (suc n)) (f w.0) e) (w.2 j (omega arith))) (eq-or-lt_of_le h),
    )
    go w false e = (
      w.0,
      omega arith,
      λ j h. ⊎_elim (λ (q : j ≡ suc n). rw q (omega (arith, leb-false (f (suc n)) (f w.0) e)))
          (λ (l : j < suc n). w.2 j (omega arith)) (eq-or-lt_of_le h),
    )

module _ (M N : ℕ) (s rv cr : ℕ → ℕ) (D : Darts M N s rv cr) where
  pub inj : (a b : ℕ) → a < M → b < M → s a < M → s a ≡ s b → a ≡ b
  inj a b la lb h e =
      let q : rv a ≡ rv b = sym (D.back a la h) ∙ ap (λ x. s (rv x)) e ∙ D.back b lb (omega arith) in
      sym (D.rv_rv a la) ∙ ap rv q ∙ D.rv_rv b lb

  -- a repeat goes back to the start
  pub repeat_start : (p i m : ℕ) → Live M s p (i + m) → it s i p ≡ it s (i + m) p → p ≡ it s m p
  unfolding it
  repeat_start p zero m live e = rw zero-add at e
  repeat_start p (suc i) m live e =
      repeat_start p i m (λ j h. live j (omega arith))
      (inj (it s i p) (it s (i + m) p) (live i (omega arith)) (live (i + m) (omega arith))
      (subst (λ x. x < M) (it_suc s i p) (live (suc i) (omega arith)))
      (sym (it_suc s i p) ∙ e ∙ ap (λ n. it s n p) (suc-add i m) ∙ it_suc s (i + m) p))

  -- a curve does not come back along itself: the other dart of a crossing that it passed is not on it
  pub no_return : (p i m : ℕ) → Live M s p (i + m) → it s (i + m) p ≢ rv (it s i p)
  no_return p i zero live e = D.rv_ne (it s i p) (live i (omega arith)) (sym e ∙ ap (λ n. it s n p) (omega arith))
  no_return p i (suc zero) live e =
      D.s_ne (it s i p) (live i (omega arith)) (sym (it_suc s i p) ∙ ap (λ n. it s n p) (omega arith) ∙ e)
  no_return p i (suc (suc m)) live e =
      let d = it s i p in
      let y = it s (suc i + m) p in
      let next : it s (i + suc (suc m)) p ≡ s y = ap (λ n. it s n p) (omega arith) ∙ it_suc s (suc i + m) p in
      let ly : s y < M = subst (λ x. x < M) next (live (i + suc (suc m)) (omega arith)) in
      let li : it s (suc i) p < M = live (suc i) (omega arith) in
      let b : s (rv (it s (suc i) p)) ≡ rv d =
      subst (λ x. s (rv x) ≡ rv d) (sym (it_suc s i p)) (D.back d (live i (omega arith)) (subst (λ x. x < M) (it_suc s i p) li)) in
      no_return p (suc i) m (λ j h. live j (omega arith))
      (inj y (rv (it s (suc i) p)) (live (suc i + m) (omega arith)) (D.rv_lt (it s (suc i) p) li) ly (sym next ∙ e ∙ sym b))

  -- the crossings of a curve that has not come back are distinct
  pub distinct : (p n : ℕ) → Live M s p n → ((i : ℕ) → 0 < i → i ≤ n → it s i p ≢ p) → (i j : ℕ) → i < j → j ≤ n → cr (it s i p) ≢ cr (it s j p)
  distinct p n live none i j l h e =
      let whole : i + (j - i) ≡ j = omega arith in
      let live' : Live M s p (i + (j - i)) = λ k g. live k (omega arith) in
      ⊎_elim
      (λ (q : it s j p ≡ it s i p). none (j - i) (omega arith) (omega arith) (sym (repeat_start p i (j - i) live' (sym q ∙ ap (λ n. it s n p) (sym whole)))))
      (λ (q : it s j p ≡ rv (it s i p)). no_return p i (j - i) live' (ap (λ n. it s n p) whole ∙ q))
      (D.same (it s j p) (it s i p) (live j h) (live i (omega arith)) (sym e))

  pub loop_distinct : {p k : ℕ} → Loop M s p k → (i j : ℕ) → i < k → j < k → cr (it s i p) ≡ cr (it s j p) → i ≡ j
  loop_distinct {p} {k} L i j a b e = go (ltb i j) (ltb j i) refl refl
    where
      apart : (i j : ℕ) → i < j → j < k → cr (it s i p) ≢ cr (it s j p)
      apart i j l h = distinct p j (λ n g. L.live n (omega arith)) (λ n z g. L.first n z (omega arith)) i j l (omega arith)

      go : (x y : Bool) → ltb i j ≡ x → ltb j i ≡ y → i ≡ j
      go true y u v = absurd (apart i j (ltb-true i j u) b e)
      go false true u v = absurd (apart j i (ltb-true j i v) a (sym e))
      go false false u v = omega (arith, ltb-false i j u, ltb-false j i v)

  -- a loop has one length, from each of its darts
  pub loop_length : {p k l : ℕ} → Loop M s p k → Loop M s p l → k ≡ l
  loop_length {p} {k} {l} K L = trichotomy k l (λ h. absurd (L.first k K.pos h K.home)) (λ h. absurd (K.first l L.pos h L.home)) (λ e. e)

  pub loop_next : {p k : ℕ} → Loop M s p k → Loop M s (s p) k
  unfolding it
  loop_next {p} {k} K = record {
    pos = K.pos;
    live = λ i h. ⊎_elim (λ (e : i ≡ k). rw (e, home) (K.live 1 K.pos)) (λ (g : i < k). K.live (suc i) g) (eq-or-lt_of_le h);
    home = home;
    first = λ i z h e. K.first i z h
        (inj (it s i p) p (K.live i (omega arith)) (K.live 0 (omega arith)) (subst (λ x. x < M) (it_suc s i p) (K.live (suc i) h)) (sym (it_suc s i p) ∙ e));
  }
    where
      home : it s k (s p) ≡ s p
      home = it_suc s k p ∙ ap s K.home

  pub loop_later : {p k : ℕ} → Loop M s p k → (i : ℕ) → Loop M s (it s i p) k
  unfolding it
  loop_later {p = p} {k = k} K zero = K
  loop_later {p = p} {k = k} K (suc i) = loop_later {p = s p} (loop_next K) i

  -- a curve that does not end within N steps comes back within N
  pub closes : (p : ℕ) → Live M s p N → (k : ℕ) × (k ≤ N) × Loop M s p k
  closes p live = go (least (λ i. eqb (it s (suc i) p) p) N)
    where
      go : Least (λ i. eqb (it s (suc i) p) p) N → (k : ℕ) × (k ≤ N) × Loop M s p k
      go (inl w) = (
        suc w.0,
        w.1,
        record {
          pos = omega arith;
          live = λ i h. live i (omega arith);
          home = eqb-true (it s (suc w.0) p) p w.2;
          first = λ i z h. from_one (λ n. it s n p ≢ p) w.0 (λ j g. eqb-false (it s (suc j) p) p (w.3 j g)) i z (omega arith);
        },
      )
      go (inr none) = absurd (pigeonhole N (λ i. cr (it s i p)) (λ i h. D.cr_lt (it s i p) (live i h)) (distinct p N live (from_one (λ n. it s n p ≢ p) N (λ j g. eqb-false (it s (suc j) p) p (none j g)))))

  -- the crossings of a loop are joined to one another only
  pub on_it : {p k : ℕ} → Loop M s p k → (j : ℕ) → j ≤ k → On s cr p k (cr (it s j p))
  unfolding it
  on_it {p} {k} L j h =
      ⊎_elim (λ (q : j ≡ k). record { at = 0; at_lt = L.pos; is = ap cr (sym (ap (λ n. it s n p) q ∙ L.home)) })
      (λ (l : j < k). record { at = j; at_lt = l; is = refl }) (eq-or-lt_of_le h)

  -- what a step from a dart at a crossing of p's loop comes to
  unfoldable pub Next : ℕ → ℕ → ℕ → Type 0
  Next p k y = (y < M) × On s cr p k (cr y)

  on_back : {p k : ℕ} → Loop M s p k → (j e : ℕ) → j < k → e ≡ rv (it s (suc j) p) → Next p k (s e)
  unfolding Next
  on_back {p} {k} L j e l q =
      let lj : it s j p < M = L.live j (omega arith) in
      let b : s e ≡ rv (it s j p) =
      ap s (q ∙ ap rv (it_suc s j p)) ∙ D.back (it s j p) lj (subst (λ x. x < M) (it_suc s j p) (L.live (suc j) l)) in
      rw b (D.rv_lt (it s j p) lj, record { at = j; at_lt = l; is = sym (D.cr_rv (it s j p) lj) })

  on_rv : (p i k e : ℕ) → Loop M s p k → i < k → e ≡ rv (it s i p) → Next p k (s e)
  unfolding it
  on_rv p zero zero e L l q = absurd (not-suc-le-zero l)
  on_rv p zero (suc k) e L l q = on_back L k e (omega arith) (q ∙ ap rv (sym L.home))
  on_rv p (suc i) k e L l q = on_back L i e (omega arith) q

  on_next : {p k : ℕ} → Loop M s p k → (e : ℕ) → e < M → On s cr p k (cr e) → Next p k (s e)
  unfolding Next
  on_next {p} {k} L e le o =
      ⊎_elim
      (λ (q : e ≡ it s o.at p). subst (λ x. (x < M) × On s cr p k (cr x)) (it_suc s o.at p ∙ ap s (sym q))
      (L.live (suc o.at) o.at_lt, on_it L (suc o.at) o.at_lt))
      (λ (q : e ≡ rv (it s o.at p)). on_rv p o.at k e L o.at_lt q)
      (D.same e (it s o.at p) le (L.live o.at (omega (arith, o.at_lt))) (sym o.is))

  pub on_step : {p k : ℕ} → Loop M s p k → (e : ℕ) → e < M → On s cr p k (cr e) → On s cr p k (cr (s e))
  unfolding Next
  on_step L e le o = (on_next L e le o).1

  -- so a walk that is once on it stays on it, and does not end
  pub on_walk : {p k : ℕ} → Loop M s p k → (n e : ℕ) → e < M → On s cr p k (cr e) → Next p k (it s n e)
  unfolding it Next
  on_walk L zero e le o = (le, o)
  on_walk L (suc n) e le o = let (l, u) = on_next L e le o in on_walk L n (s e) l u

  -- a loop that shares a crossing with another has all of its crossings, its start's too
  pub on_start : {p k q l : ℕ} → Loop M s p k → Loop M s q l → (j : ℕ) → j ≤ l → On s cr p k (cr (it s j q)) → On s cr p k (cr q)
  unfolding Next
  on_start {p} {k} {q} {l} L K j h o =
      subst (λ x. On s cr p k (cr x)) (it_sub s j l q h ∙ K.home)
      (on_walk L (l - j) (it s j q) (K.live j h) o).1

  -- two loops from their least crossings that share a crossing start at the same one
  pub one_loop : {p k q l : ℕ} → Loop M s p k → Loop M s q l → Lowest s cr p k → Lowest s cr q l → (x : ℕ) → On s cr p k x → On s cr q l x → cr p ≡ cr q
  one_loop {p} {k} {q} {l} L K lp lq x o u =
      let a : cr p ≤ cr q = lp (cr q) (on_start L K u.at (omega (arith, u.at_lt)) (rw u.is o)) in
      let b : cr q ≤ cr p = lq (cr p) (on_start K L o.at (omega (arith, o.at_lt)) (rw o.is u)) in
      omega arith

  -- a loop from its least crossing, at either side, has the crossings of any loop that it is on
  from_least : {e k q : ℕ} → Loop M s e k → q < M → (i : ℕ) → i ≤ k → ((j : ℕ) → j ≤ k → cr (it s i e) ≤ cr (it s j e)) → cr q ≡ cr (it s i e)
      → (l : ℕ) × (l ≤ N) × Loop M s q l × Lowest s cr q l × On s cr q l (cr e)
  unfolding Next it
  from_least {e} {k} {q} K lq i ik low c =
      let o : On s cr e k (cr q) = rw c (on_it K i ik) in
      let (l, lN, L) = closes q (λ n h. (on_walk K n q lq o).0) in (
        l,
        lN,
        L,
        (λ x u. let v = (on_walk K u.at q lq o).1 in rw (c, ← u.is, ← v.is) (low v.at (omega (arith, v.at_lt)))),
        on_start L K i ik (rw (← c) (on_it L 0 (omega arith))),
      )

  module _ (dt : ℕ → ℕ) (dt-lt : (x : ℕ) → x < N → dt x < M) (cr-dt : (x : ℕ) → x < N → cr (dt x) ≡ x) where
    -- each crossing of a loop is on a loop from that loop's least crossing
    pub covered : {e k : ℕ} → Loop M s e k → (p : ℕ) × (p < N) × (l : ℕ) × (l ≤ N) × Loop M s (dt p) l × Lowest s cr (dt p) l × On s cr (dt p) l (cr e)
    covered {e} {k} K =
        let (i, ik, low) = min_at (λ j. cr (it s j e)) k in
        let lp : cr (it s i e) < N = D.cr_lt (it s i e) (K.live i ik) in
        let w = from_least K (dt-lt (cr (it s i e)) lp) i ik low (cr-dt (cr (it s i e)) lp) in
        (cr (it s i e), lp, w.0, w.1, w.2, w.3, w.4)

  -- where no curve ends, each dart is on a loop
  pub all_close : ((d : ℕ) → d < M → s d < M) → (p : ℕ) → p < M → (k : ℕ) × (k ≤ N) × Loop M s p k
  unfolding it
  all_close total p l = closes p (λ i h. go i p l)
    where
      go : (i p : ℕ) → p < M → it s i p < M
      go zero p l = l
      go (suc i) p l = go i (s p) (total p l)

  -- a loop has no more crossings than there are
  pub loop_short : {p k : ℕ} → Loop M s p k → k ≤ N
  loop_short {p} {k} L = elim (dec_lt N k) [
    | yes l ↦ absurd (pigeonhole N (λ i. cr (it s i p)) (λ i h. D.cr_lt (it s i p) (L.live i (omega arith)))
        (λ i j a h q. omega (arith, loop_distinct L i j (omega arith) (omega arith) q)))
    | no l ↦ omega arith
  ]
