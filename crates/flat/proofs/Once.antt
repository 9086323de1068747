-- Each crossing with a segment is in exactly one chain, once; and so is each segment.
use Prim.Native.Nat.{ℕ, zero, suc, ◌+◌, ◌*◌, ◌≤◌, ◌<◌}
use mathlib.Core.Path.{◌≡◌, refl, sym, ap, ◌∙◌, subst}
use mathlib.Core.Logic.{inl, inr, ⊎_elim}
use mathlib.Core.Bool.{Bool, true, false, ◌||◌}
use mathlib.Core.List.{List, [], ◌∷◌}
use native.Mathlib.Nat.{eq-zero-or-pos, not-suc-le-zero, le_of_eq}
use native.Mathlib.Decide.{ℕ_discrete}
use native.Mathlib.Omega.{arith}
use lib.Dec.{eqb}
use borrow.Author.Tests.{eq-eqb, eqb-true, ne_eqb}
use Rattle.counting.specs.Lists.{one, total, tally, it}
use Rattle.counting.proofs.Range.{total_has, total_one, total_pos, total_zero}
use Rattle.counting.proofs.Lists.{tally_over}
use Rattle.walk.specs.Darts.{half, rev, On, of_crossing}
use Rattle.walk.specs.claims.Claims.{Darts}
use Rattle.walk.proofs.Iterate.{it_suc, tally_orbit}
use Rattle.walk.proofs.Step.{half_rev, rev_rev, same_half}
use Rattle.flat.specs.Chain.{closes, chain_size, chain_start, darts_at, chain_darts}
use Rattle.flat.specs.ChainClaims.{Path, of_segment, ChainLaws}
use Rattle.flat.proofs.Curves.{Held, In, closed_loop, closed_start, found, held, open_chain}

-- a test that splits in two
pub tally_split : (t u v : ℕ → Bool) → ((e : ℕ) → one (t e) ≡ one (u e) + one (v e)) → (l : List ℕ) → tally t l ≡ tally u l + tally v l
unfolding tally
tally_split t u v h [] = omega arith
tally_split t u v h (e ∷ l) = omega (arith, h e, tally_split t u v h l)

-- the test for a dart
abbrev is_dart : ℕ → ℕ → Bool
is_dart d e = eqb e d

module _ (N : ℕ) (s : ℕ → ℕ) (D : Darts (2 * N) N s rev half) where
  -- WHERE A DART THAT PASSES A TEST STANDS

  chain_tally : (t : ℕ → Bool) (p : ℕ) → tally t (darts_at N s p) ≡ total (λ i. one (t (it s i (chain_start N s p)))) (chain_size N s p) 0
  unfolding darts_at
  chain_tally t p = tally_orbit t s (chain_size N s p) (chain_start N s p)

  all_tally : (t : ℕ → Bool) → tally t (chain_darts N s) ≡ total (λ p. tally t (darts_at N s p)) N 0
  unfolding chain_darts
  all_tally t = tally_over t (darts_at N s) N 0

  record Stands (t : ℕ → Bool) : Type 0 where
    p : ℕ
    i : ℕ
    p_lt : p < N
    i_lt : i < chain_size N s p
    passes : t (it s i (chain_start N s p)) ≡ true

  pos_one : (b : Bool) → 0 < one b → b ≡ true
  pos_one true h = refl
  pos_one false h = absurd (not-suc-le-zero h)

  stands : (t : ℕ → Bool) → 0 < tally t (chain_darts N s) → Stands t
  stands t h =
      let (p, a, b, k) = total_pos (λ p. tally t (darts_at N s p)) N 0 (rw (all_tally t) at h) in
      let (i, c, d, m) = total_pos (λ i. one (t (it s i (chain_start N s p)))) (chain_size N s p) 0 (rw (chain_tally t p) at k) in
      record { p = p; i = i; p_lt = omega arith; i_lt = omega arith; passes = pos_one (t (it s i (chain_start N s p))) m }

  counted : (t : ℕ → Bool) → Stands t → 0 < tally t (chain_darts N s)
  counted t w =
      let a = total_has (λ i. one (t (it s i (chain_start N s w.p)))) (chain_size N s w.p) 0 w.i (omega arith) (omega (arith, w.i_lt)) in
      let b = total_has (λ p. tally t (darts_at N s p)) N 0 w.p (omega arith) (omega (arith, w.p_lt)) in
      omega (arith, chain_tally t w.p, all_tally t, ap one w.passes)

  -- EACH CROSSING IN ONE CHAIN

  at_chain : (p x : ℕ) → p < N → In N s D p x → Held N s D (chain_start N s p) (chain_size N s p) p
  at_chain p x h o = held N s D p h (omega (arith, o.at_lt))

  -- what goes on over segments holds of all crossings of a chain or of none
  module _ (Q : ℕ → Type 0) (goes : (e : ℕ) → e < 2 * N → Q (half e) → s e < 2 * N → Q (half (s e))) {d k p : ℕ} (H : Held N s D d k p) where
    down : (i : ℕ) → i < k → Q (half (it s i d)) → Q (half d)
    unfolding it
    down zero h q = q
    down (suc i) h q =
        let e = it_suc s i d in
        let l = H.darted.live i (omega arith) in
        let m = subst (λ x. x < 2 * N) e (H.darted.live (suc i) h) in
        let b : s (rev (it s (suc i) d)) ≡ rev (it s i d) = ap (λ x. s (rev x)) e ∙ D.back (it s i d) l m in
        let r = goes (rev (it s (suc i) d)) (D.rv_lt (it s (suc i) d) (H.darted.live (suc i) h)) (rw (half_rev (it s (suc i) d)) q) (rw b (D.rv_lt (it s i d) l)) in
        down i (omega arith) (subst Q (ap half b ∙ half_rev (it s i d)) r)

    up : (i : ℕ) → i < k → Q (half d) → Q (half (it s i d))
    unfolding it
    up zero h q = q
    up (suc i) h q =
        let e = it_suc s i d in
        let m = subst (λ x. x < 2 * N) e (H.darted.live (suc i) h) in
        subst Q (ap half (sym e)) (goes (it s i d) (H.darted.live i (omega arith)) (up i (omega arith) q) m)

    pub to_least : (x : ℕ) → On s half d k x → Q x → Q p
    to_least x o q = subst Q H.has.is (up H.has.at H.has.at_lt (down o.at o.at_lt (subst Q (sym o.is) q)))

  goes_on : {d k p : ℕ} → Held N s D d k p → (e : ℕ) → e < 2 * N → On s half d k (half e) → s e < 2 * N → On s half d k (half (s e))
  goes_on {d} {k} H e h o l = elim (D.same e (it s o.at d) h (H.darted.live o.at o.at_lt) (sym o.is)) [
    | inl q ↦
        let (j, m, is) = H.darted.next o.at o.at_lt (subst (λ x. s x < 2 * N) q l) in
        record { at = j; at_lt = m; is = ap half (is ∙ ap s (sym q)) }
    | inr q ↦
        let (j, m, is) = H.darted.prev o.at o.at_lt (subst (λ x. s x < 2 * N) q l) in
        record { at = j; at_lt = m; is = ap half is ∙ half_rev (s (rev (it s o.at d))) ∙ ap (λ x. half (s x)) (sym q) }
  ]

  not_above : (p q x : ℕ) → p < N → q < N → In N s D p x → In N s D q x → q ≤ p
  not_above p q x lp lq o u =
      let K = at_chain q x lq u in
      K.least p (to_least (In N s D q) (goes_on K) (at_chain p x lp o) x o u)

  pub one_chain : (p q x : ℕ) → p < N → q < N → In N s D p x → In N s D q x → p ≡ q
  one_chain p q x lp lq o u = omega (arith, not_above p q x lp lq o u, not_above q p x lq lp u o)

  in_once : (p x : ℕ) → p < N → In N s D p x → tally (of_crossing x) (darts_at N s p) ≡ 1
  in_once p x h o =
      chain_tally (of_crossing x) p
      ∙ total_one (λ i. one (of_crossing x (it s i (chain_start N s p)))) (chain_size N s p) 0 o.at (omega arith) (omega (arith, o.at_lt))
      (ap one (eq-eqb _ _ o.is))
      (λ i u v w. ap one (ne_eqb (half (it s i (chain_start N s p))) x (λ e. w ((at_chain p x h o).darted.apart i o.at (omega arith) o.at_lt (e ∙ sym o.is)))))

  not_in : (p x : ℕ) → (In N s D p x → ⊥) → tally (of_crossing x) (darts_at N s p) ≡ 0
  not_in p x out =
      chain_tally (of_crossing x) p
      ∙ total_zero (λ i. one (of_crossing x (it s i (chain_start N s p)))) (chain_size N s p) 0
      (λ i u v. ap one (ne_eqb _ _ (λ e. out (record { at = i; at_lt = omega arith; is = e }))))

  crossing_once : (p x : ℕ) → p < N → In N s D p x → tally (of_crossing x) (chain_darts N s) ≡ 1
  crossing_once p x h o =
      all_tally (of_crossing x)
      ∙ total_one (λ q. tally (of_crossing x) (darts_at N s q)) N 0 p (omega arith) (omega arith) (in_once p x h o)
      (λ q u v w. not_in q x (λ u. w (one_chain q p x (omega arith) h u o)))

  stands_in : {x : ℕ} → (w : Stands (of_crossing x)) → In N s D w.p x
  stands_in {x} w = record { at = w.i; at_lt = w.i_lt; is = eqb-true (half (it s w.i (chain_start N s w.p))) x w.passes }

  pub most : (x : ℕ) → tally (of_crossing x) (chain_darts N s) ≤ 1
  most x = elim (eq-zero-or-pos (tally (of_crossing x) (chain_darts N s))) [
    | inl e ↦ omega arith
    | inr h ↦ let w = stands (of_crossing x) h in le_of_eq (crossing_once w.p x w.p_lt (stands_in w))
  ]

  joined : (d : ℕ) → d < 2 * N → s d < 2 * N → tally (of_crossing (half d)) (chain_darts N s) ≡ 1
  joined d h k = let (p, lp, o) = found N s D d h k in crossing_once p (half d) lp o

  -- a crossing without a segment is in none
  single : (x : ℕ) → x < N → 2 * N ≤ s (2 * x) → 2 * N ≤ s (rev (2 * x)) → tally (of_crossing x) (chain_darts N s) ≡ 0
  single x h a b = elim (eq-zero-or-pos (tally (of_crossing x) (chain_darts N s))) [
    | inl e ↦ e
    | inr k ↦ let w = stands (of_crossing x) k in absurd (alone (at_chain w.p x w.p_lt (stands_in w)) (stands_in w))
  ]
    where
      alone : {d k p : ℕ} → Held N s D d k p → On s half d k x → ⊥
      alone {d} H o =
          let l = H.darted.live o.at o.at_lt in
          elim (D.same (it s o.at d) (2 * x) l (omega arith) (o.is ∙ omega arith)) [
            | inl q ↦ elim (H.darted.linked o.at o.at_lt) [
              | inl m ↦ omega (arith, ap s q)
              | inr m ↦ omega (arith, ap (λ e. s (rev e)) q)
            ]
            | inr q ↦ elim (H.darted.linked o.at o.at_lt) [
              | inl m ↦ omega (arith, ap s q)
              | inr m ↦ omega (arith, ap (λ e. s (rev e)) q ∙ ap s (rev_rev (2 * x)))
            ]
          ]

  -- EACH SEGMENT

  two_darts : (d : ℕ) → d < 2 * N → (l : List ℕ) → tally (of_crossing (half d)) l ≡ tally (is_dart d) l + tally (is_dart (rev d)) l
  two_darts d h = tally_split (of_crossing (half d)) (is_dart d) (is_dart (rev d)) each
    where
      each : (e : ℕ) → one (eqb (half e) (half d)) ≡ one (eqb e d) + one (eqb e (rev d))
      each e = elim (ℕ_discrete e d) [
        | yes q ↦ rw (eq-eqb (half e) (half d) (ap half q), eq-eqb e d q, ne_eqb e (rev d) (λ r. D.rv_ne d h (sym r ∙ q)))
        | no q ↦ elim (ℕ_discrete e (rev d)) [
          | yes r ↦ rw (eq-eqb (half e) (half d) (ap half r ∙ half_rev d), ne_eqb e d q, eq-eqb e (rev d) r)
          | no r ↦ rw (ne_eqb (half e) (half d) (λ z. ⊎_elim q r (same_half e d z)), ne_eqb e d q, ne_eqb e (rev d) r)
        ]
      ]

  -- a chain goes on, and comes from somewhere
  after : (d : ℕ) → s d < 2 * N → 0 < tally (is_dart d) (chain_darts N s) → 0 < tally (is_dart (s d)) (chain_darts N s)
  after d l h =
      let w = stands (is_dart d) h in
      let q = eqb-true (it s w.i (chain_start N s w.p)) d w.passes in
      let H = held N s D w.p w.p_lt (omega (arith, w.i_lt)) in
      let (j, m, is) = H.darted.next w.i w.i_lt (rw q l) in
      counted (is_dart (s d)) (record { p = w.p; i = j; p_lt = w.p_lt; i_lt = m; passes = eq-eqb _ (s d) (is ∙ ap s q) })

  before : (d : ℕ) → s d < 2 * N → 0 < tally (is_dart (rev d)) (chain_darts N s) → 0 < tally (is_dart (rev (s d))) (chain_darts N s)
  before d l h =
      let w = stands (is_dart (rev d)) h in
      let q = eqb-true (it s w.i (chain_start N s w.p)) (rev d) w.passes in
      let r : rev (it s w.i (chain_start N s w.p)) ≡ d = ap rev q ∙ rev_rev d in
      let H = held N s D w.p w.p_lt (omega (arith, w.i_lt)) in
      let (j, m, is) = H.darted.prev w.i w.i_lt (rw r l) in
      counted (is_dart (rev (s d))) (record { p = w.p; i = j; p_lt = w.p_lt; i_lt = m; passes = eq-eqb _ (rev (s d)) (is ∙ ap (λ x. rev (s x)) r) })

  segment_tally : (d : ℕ) → d < 2 * N → (l : List ℕ) → tally (of_segment N s d) l ≡ tally (is_dart d) l + tally (is_dart (rev (s d))) l
  unfolding of_segment
  segment_tally d h = tally_split (of_segment N s d) (is_dart d) (is_dart (rev (s d))) each
    where
      each : (e : ℕ) → one (eqb e d || eqb e (rev (s d))) ≡ one (eqb e d) + one (eqb e (rev (s d)))
      each e = elim (ℕ_discrete e d) [
        | yes q ↦ rw (eq-eqb e d q, ne_eqb e (rev (s d)) (λ r. D.s_ne d h (sym (rev_rev (s d)) ∙ ap rev (sym r ∙ q))))
        | no q ↦ rw (ne_eqb e d q) (omega arith)
      ]

  once : (d : ℕ) → d < 2 * N → s d < 2 * N → tally (of_segment N s d) (chain_darts N s) ≡ 1
  once d h k =
      let b : s (rev (s d)) < 2 * N = rw (D.back d h k) (D.rv_lt d h) in
      let c = joined d h k in
      let e = joined (rev (s d)) (D.rv_lt (s d) k) b in
      let f = two_darts d h (chain_darts N s) in
      let g = two_darts (rev (s d)) (D.rv_lt (s d) k) (chain_darts N s) in
      segment_tally d h (chain_darts N s) ∙ go c e f (rw (rev_rev (s d)) at g) (after d k) (before d k)
    where
      go : tally (of_crossing (half d)) (chain_darts N s) ≡ 1 → tally (of_crossing (half (rev (s d)))) (chain_darts N s) ≡ 1
          → tally (of_crossing (half d)) (chain_darts N s) ≡ tally (is_dart d) (chain_darts N s) + tally (is_dart (rev d)) (chain_darts N s)
          → tally (of_crossing (half (rev (s d)))) (chain_darts N s) ≡ tally (is_dart (rev (s d))) (chain_darts N s) + tally (is_dart (s d)) (chain_darts N s)
          → (0 < tally (is_dart d) (chain_darts N s) → 0 < tally (is_dart (s d)) (chain_darts N s))
          → (0 < tally (is_dart (rev d)) (chain_darts N s) → 0 < tally (is_dart (rev (s d))) (chain_darts N s))
          → tally (is_dart d) (chain_darts N s) + tally (is_dart (rev (s d))) (chain_darts N s) ≡ 1
      go c e f g a b = elim (eq-zero-or-pos (tally (is_dart d) (chain_darts N s))) [
        | inl z ↦ omega (arith, b (omega arith))
        | inr z ↦ omega (arith, a z)
      ]

  -- TOGETHER

  pub chain_laws : ChainLaws N s
  chain_laws = record {
    closed = λ p h k q. (closed_start N s D p q, (closed_loop N s D p h k q).0);
    ends = λ p h k q. ends p h k q;
    distinct = λ p i j h a b q. (held N s D p h (omega arith)).darted.apart i j a b q;
    has = λ p h k. (held N s D p h k).has;
    least = λ p x h o. (at_chain p x h o).least x o;
    most = λ x h. most x;
    joined = joined;
    single = single;
    once = once;
  }
    where
      ends : (p : ℕ) → p < N → 0 < chain_size N s p → closes N s p ≡ false
          → (l : ℕ) × (0 < l) × (chain_size N s p ≡ suc l) × Path N s (chain_start N s p) l × (half (chain_start N s p) < half (it s l (chain_start N s p)))
      ends p h k q = let (L, e, f) = open_chain N s D p h k q in (L.l, L.some, e, rw f L.path, rw f L.lower)
