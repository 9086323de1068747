-- The chain of a least crossing: a loop, or a curve between two ends.
use Prim.Native.Nat.{ℕ, zero, suc, ◌+◌, ◌*◌, ◌-◌, ◌%◌, ◌≤◌, ◌<◌}
use mathlib.Core.Path.{◌≡◌, refl, sym, ap, ◌∙◌, subst}
use mathlib.Core.Logic.{◌⊎◌, inl, inr}
use mathlib.Core.Bool.{Bool, true, false}
use native.Mathlib.Decide.{dec_lt, ℕ_discrete}
use native.Mathlib.Omega.{arith}
use lib.Dec.{ltb, leb}
use borrow.Author.Tests.{eq-eqb, eqb-false, le-leb, leb-true, le-ltb, lt-ltb, ltb-true, ne_eqb}
use Rattle.counting.specs.Search.{every}
use Rattle.counting.proofs.Below.{trichotomy}
use Rattle.counting.proofs.Bools.{and_left, and_right}
use Rattle.counting.proofs.Search.{every_is, is_every}
use Rattle.counting.specs.Lists.{it}
use Rattle.walk.specs.Darts.{half, rev, Loop, On}
use Rattle.walk.specs.claims.Claims.{Darts, Lowest}
use Rattle.walk.specs.Walk.{size}
use Rattle.walk.proofs.Iterate.{it_suc}
use Rattle.walk.proofs.Curve as curve
use Rattle.walk.proofs.Once.{closed_in, listed}
use Rattle.walk.proofs.Step.{half_rev, rev_first, rev_rev, rev_second}
use Rattle.flat.specs.Chain.{steps, closes, path_steps, path_start, is_path, chain_size, chain_start}
use Rattle.flat.specs.ChainClaims.{Path}
use Rattle.flat.proofs.Taken.{Between, between, loop_steps, path_back_last, path_back_steps, path_distinct, path_last, path_rev, path_short, path-steps, path_turn, steps_le, steps_loop}

-- a dart of crossing p is its first or its second
dart-of : (e p : ℕ) → half e ≡ p → (e ≡ 2 * p) ⊎ (e ≡ 2 * p + 1)
dart-of e p q = elim (ℕ_discrete (e % 2) 0) [
  | yes z ↦ inl (omega arith)
  | no z ↦ inr (omega arith)
]

module _ (N : ℕ) (s : ℕ → ℕ) (D : Darts (2 * N) N s rev half) where
  -- THE PATH THROUGH A CROSSING, from any path that it is on

  module _ {d l : ℕ} (P : Path N s d l) (i : ℕ) (h : i ≤ l) where
    first_dart : (p : ℕ) → it s i d ≡ 2 * p → rev (it s i d) ≡ 2 * p + 1
    first_dart p q = ap rev q ∙ rev_first p

    second_dart : (p : ℕ) → it s i d ≡ 2 * p + 1 → rev (it s i d) ≡ 2 * p
    second_dart p q = ap rev q ∙ rev_second p

    pub through_steps : (p : ℕ) → half (it s i d) ≡ p → path_steps N s p ≡ l
    unfolding path_steps
    through_steps p q = elim (dart-of (it s i d) p q) [
      | inl a ↦ rw (← first_dart p a, ← a) (omega (arith, path-steps N s D P i h, path_back_steps N s D P i h))
      | inr a ↦ rw (← a, ← second_dart p a) (omega (arith, path-steps N s D P i h, path_back_steps N s D P i h))
    ]

    pub through_start : half d < half (it s l d) → (p : ℕ) → half (it s i d) ≡ p → path_start N s p ≡ d
    unfolding path_start
    through_start low p q = elim (dart-of (it s i d) p q) [
      | inl a ↦
          rw (← first_dart p a, ← a, path_last N s D P i h, path_back_last N s D P i h, half_rev d, le-ltb (half (it s l d)) (half d) (omega arith)) (rev_rev d)
      | inr a ↦
          rw (← a, ← second_dart p a, path_last N s D P i h, path_back_last N s D P i h, half_rev d, lt-ltb (half d) (half (it s l d)) low) (rev_rev d)
    ]

  -- a path with crossing p on it, from its lower end
  pub record Lower (p : ℕ) : Type 0 where
    pub d : ℕ
    pub l : ℕ
    pub at : ℕ
    pub path : Path N s d l
    pub some : 0 < l
    pub lower : half d < half (it s l d)
    pub within : at ≤ l
    pub is : half (it s at d) ≡ p

  pub oriented : (p d l i : ℕ) → Path N s d l → i ≤ l → half (it s i d) ≡ p → 0 < l → Lower p
  unfolding it
  oriented p d l i P h q some = trichotomy (half d) (half (it s l d))
      (λ m. record { d = d; l = l; at = i; path = P; some = some; lower = m; within = h; is = q })
      (λ m. record {
        d = rev (it s l d);
        l = l;
        at = l - i;
        path = path_turn N s D P;
        some = some;
        lower = rw (half_rev (it s l d), back, half_rev d) m;
        within = omega arith;
        is = ap half (path_rev N s D P i h) ∙ half_rev (it s i d) ∙ q;
      })
      (λ m. absurd (path_distinct N s D P 0 l some (omega arith) m))
    where
      back : it s l (rev (it s l d)) ≡ rev d
      back = let e : l - 0 ≡ l = omega arith in rw e at (path_rev N s D P 0 (omega arith))

  -- WHAT A CHAIN IS: k darts that lead over all segments at their crossings, on and back
  pub record Darted (d k : ℕ) : Type 0 where
    pub live : (i : ℕ) → i < k → it s i d < 2 * N
    pub apart : (i j : ℕ) → i < k → j < k → half (it s i d) ≡ half (it s j d) → i ≡ j
    pub next : (i : ℕ) → i < k → s (it s i d) < 2 * N → (j : ℕ) × (j < k) × (it s j d ≡ s (it s i d))
    pub prev : (i : ℕ) → i < k → s (rev (it s i d)) < 2 * N → (j : ℕ) × (j < k) × (it s j d ≡ rev (s (rev (it s i d))))
    -- each crossing has a segment
    pub linked : (i : ℕ) → i < k → (s (it s i d) < 2 * N) ⊎ (s (rev (it s i d)) < 2 * N)

  before_is : (d i : ℕ) → it s i d < 2 * N → it s (suc i) d < 2 * N → it s i d ≡ rev (s (rev (it s (suc i) d)))
  before_is d i h k =
      let e = it_suc s i d in
      sym (ap (λ x. rev (s (rev x))) e ∙ ap rev (D.back (it s i d) h (subst (λ x. x < 2 * N) e k)) ∙ rev_rev (it s i d))

  pub path_darted : {d l : ℕ} → Path N s d l → 0 < l → Darted d (suc l)
  unfolding it
  path_darted {d} {l} P some = record {
    live = λ i h. P.live i (omega arith);
    apart = λ i j h k q. trichotomy i j (λ m. absurd (path_distinct N s D P i j m (omega arith) q)) (λ m. absurd (path_distinct N s D P j i m (omega arith) (sym q))) (λ e. e);
    next = λ i h k. elim (dec_lt i l) [
      | yes m ↦ (suc i, omega arith, it_suc s i d)
      | no m ↦ let e : i ≡ l = omega arith in absurd (omega (arith, P.last, rw e at k))
    ];
    prev = prev;
    linked = linked;
  }
    where
      linked : (i : ℕ) → i < suc l → (s (it s i d) < 2 * N) ⊎ (s (rev (it s i d)) < 2 * N)
      linked zero h = inl (P.live 1 (omega arith))
      linked (suc i) h =
          let e = it_suc s i d in
          let b = ap (λ x. s (rev x)) e ∙ D.back (it s i d) (P.live i (omega arith)) (subst (λ x. x < 2 * N) e (P.live (suc i) (omega arith))) in
          inr (rw b (D.rv_lt (it s i d) (P.live i (omega arith))))

      prev : (i : ℕ) → i < suc l → s (rev (it s i d)) < 2 * N → (j : ℕ) × (j < suc l) × (it s j d ≡ rev (s (rev (it s i d))))
      prev zero h k = absurd (omega (arith, P.first))
      prev (suc i) h k = (i, omega arith, before_is d i (P.live i (omega arith)) (P.live (suc i) (omega arith)))

  pub loop_darted : {d k : ℕ} → Loop (2 * N) s d k → Darted d k
  unfolding it
  loop_darted {d} {k} L = record {
    live = λ i h. L.live i (omega arith);
    apart = λ i j. curve.loop_distinct (2 * N) N s rev half D L i j;
    next = λ i h m. elim (ℕ_discrete (suc i) k) [
      | yes e ↦ (0, L.pos, sym (sym (it_suc s i d) ∙ ap (λ (n : ℕ). it s n d) e ∙ L.home))
      | no e ↦ (suc i, omega arith, it_suc s i d)
    ];
    prev = prev;
    linked = λ i h. inl (subst (λ x. x < 2 * N) (it_suc s i d) (L.live (suc i) h));
  }
    where
      prev : (i : ℕ) → i < k → s (rev (it s i d)) < 2 * N → (j : ℕ) × (j < k) × (it s j d ≡ rev (s (rev (it s i d))))
      prev zero h m =
          let e : suc (k - 1) ≡ k = omega arith in
          let q : it s (suc (k - 1)) d ≡ d = ap (λ (n : ℕ). it s n d) e ∙ L.home in
          (k - 1, omega arith, before_is d (k - 1) (L.live (k - 1) (omega arith)) (L.live (suc (k - 1)) (omega arith)) ∙ ap (λ x. rev (s (rev x))) q)
      prev (suc i) h m = (i, omega arith, before_is d i (L.live i (omega arith)) (L.live (suc i) (omega arith)))

  -- THE CHAIN OF p

  -- d leads over k crossings, of which p is the least
  pub record Held (d k p : ℕ) : Type 0 where
    pub darted : Darted d k
    pub has : On s half d k p
    pub least : (x : ℕ) → On s half d k x → p ≤ x

  module _ (p : ℕ) where
    pub closed_size : closes N s p ≡ true → chain_size N s p ≡ size N s p
    unfolding chain_size
    closed_size q = rw q

    pub closed_start : closes N s p ≡ true → chain_start N s p ≡ 2 * p
    unfolding chain_start
    closed_start q = rw q

    pub open_size : closes N s p ≡ false → is_path N s p ≡ true → chain_size N s p ≡ suc (path_steps N s p)
    unfolding chain_size
    open_size q r = rw (q, r) (omega arith)

    pub open_none : closes N s p ≡ false → is_path N s p ≡ false → chain_size N s p ≡ 0
    unfolding chain_size
    open_none q r = rw (q, r)

    pub open_start : closes N s p ≡ false → chain_start N s p ≡ path_start N s p
    unfolding chain_start
    open_start q = rw q

    first_half : half (2 * p) ≡ p
    first_half = omega arith

    -- a closed one
    pub closed_loop : p < N → 0 < chain_size N s p → closes N s p ≡ true → Loop (2 * N) s (2 * p) (chain_size N s p) × Lowest s half (2 * p) (chain_size N s p)
    closed_loop h k q = rw (closed_size q) (listed N s rev D p h (rw (closed_size q) at k))

    loop_held : {k : ℕ} → Loop (2 * N) s (2 * p) k → Lowest s half (2 * p) k → Held (2 * p) k p
    unfolding it
    loop_held L low = record {
      darted = loop_darted L;
      has = record { at = 0; at_lt = L.pos; is = first_half };
      least = λ x o. omega (arith, low x o);
    }

    -- an open one
    pub open_lower : p < N → closes N s p ≡ false → is_path N s p ≡ true → (L : Lower p) × (path_steps N s p ≡ L.l) × (path_start N s p ≡ L.d)
    unfolding is_path closes
    open_lower h q r =
        let few : steps N s (2 * p) < N = omega (arith, eqb-false (steps N s (2 * p)) N q, steps_le N s D (2 * p)) in
        let B = between N s D (2 * p) (omega arith) few in
        let here : half (it s B.at B.d) ≡ p = ap half B.is ∙ first_half in
        let e = through_steps B.path B.at B.within p here in
        let some = ltb-true 0 (path_steps N s p) (and_left (ltb 0 (path_steps N s p)) (every (λ i. leb p (half (it s i (path_start N s p)))) (path_steps N s p + 1)) r) in
        let L = oriented p B.d B.l B.at B.path B.within here (omega arith) in
        let f = through_steps L.path L.at L.within p L.is in
        (L, f, through_start L.path L.at L.within L.lower p L.is)

    path_held : (L : Lower p) → is_path N s p ≡ true → path_steps N s p ≡ L.l → path_start N s p ≡ L.d → Held L.d (suc L.l) p
    unfolding is_path
    path_held L r e f = record {
      darted = path_darted L.path L.some;
      has = record { at = L.at; at_lt = omega (arith, L.within); is = L.is };
      least = λ x o.
          let a = and_right (ltb 0 (path_steps N s p)) (every (λ i. leb p (half (it s i (path_start N s p)))) (path_steps N s p + 1)) r in
          let b = leb-true p _ (every_is (λ i. leb p (half (it s i (path_start N s p)))) (path_steps N s p + 1) a o.at (omega (arith, o.at_lt))) in
          omega (arith, rw f at b, o.is);
    }

    pub open_chain : p < N → 0 < chain_size N s p → closes N s p ≡ false → (L : Lower p) × (chain_size N s p ≡ suc L.l) × (chain_start N s p ≡ L.d)
    open_chain h k q = go (is_path N s p) refl
      where
        go : (b : Bool) → is_path N s p ≡ b → (L : Lower p) × (chain_size N s p ≡ suc L.l) × (chain_start N s p ≡ L.d)
        go true r = let (L, e, f) = open_lower h q r in (L, open_size q r ∙ ap suc e, open_start q ∙ f)
        go false r = absurd (omega (arith, open_none q r))

    pub held : p < N → 0 < chain_size N s p → Held (chain_start N s p) (chain_size N s p) p
    held h k = go (closes N s p) (is_path N s p) refl refl
      where
        go : (b c : Bool) → closes N s p ≡ b → is_path N s p ≡ c → Held (chain_start N s p) (chain_size N s p) p
        go true c q r = let (L, low) = closed_loop h k q in rw (closed_start q) (loop_held L low)
        go false true q r = let (L, e, f) = open_lower h q r in rw (open_size q r, open_start q, e, f) (path_held L r e f)
        go false false q r = absurd (omega (arith, open_none q r))

  -- EACH SEGMENT'S ENDS ARE IN A CHAIN

  least-at : (f : ℕ → ℕ) (n : ℕ) → (i : ℕ) × (i ≤ n) × ((j : ℕ) → j ≤ n → f i ≤ f j)
  least-at f zero = (0, omega arith, λ j h. let e : j ≡ 0 = omega arith in rw e (omega arith))
  least-at f (suc n) =
      let (i, h, m) = least-at f n in
      elim (dec_lt (f (suc n)) (f i)) [
        | yes l ↦ (
          suc n,
          omega arith,
          λ j k. elim (dec_lt j (suc n)) [
            | yes a ↦ omega (arith, m j (omega arith))
            | no a ↦ let e : j ≡ suc n = omega arith in rw e (omega arith)
          ],
        )
        | no l ↦ (
          i,
          omega arith,
          λ j k. elim (dec_lt j (suc n)) [
            | yes a ↦ m j (omega arith)
            | no a ↦ let e : j ≡ suc n = omega arith in rw e (omega arith)
          ],
        )
      ]

  -- a path is the chain of its least crossing
  module _ {d l : ℕ} (P : Path N s d l) (low : half d < half (it s l d)) (some : 0 < l) (i : ℕ) (h : i ≤ l)
      (least : (j : ℕ) → j ≤ l → half (it s i d) ≤ half (it s j d)) where
    opens : closes N s (half (it s i d)) ≡ false
    unfolding closes
    opens = ne_eqb (steps N s (2 * half (it s i d))) N (elim (dart-of (it s i d) (half (it s i d)) refl) [
      | inl a ↦ λ q. omega (arith, path-steps N s D P i h, path_short N s D P, ap (steps N s) a)
      | inr a ↦ λ q. omega (arith, path_back_steps N s D P i h, path_short N s D P, ap (steps N s) (ap rev a ∙ rev_second (half (it s i d))))
    ])

    is-path : is_path N s (half (it s i d)) ≡ true
    unfolding is_path
    is-path =
        rw (through_steps P i h (half (it s i d)) refl, through_start P i h low (half (it s i d)) refl, lt-ltb 0 l some)
        (is_every (λ j. leb (half (it s i d)) (half (it s j d))) (l + 1) (λ j k. le-leb _ _ (least j (omega arith))))

    pub path_size : chain_size N s (half (it s i d)) ≡ suc l
    path_size = open_size (half (it s i d)) opens is-path ∙ ap suc (through_steps P i h (half (it s i d)) refl)

    pub path-start : chain_start N s (half (it s i d)) ≡ d
    path-start = open_start (half (it s i d)) opens ∙ through_start P i h low (half (it s i d)) refl

  closes_at : (p : ℕ) → p < N → 0 < size N s p → closes N s p ≡ true
  unfolding closes
  closes_at p lp z = eq-eqb (steps N s (2 * p)) N (loop_steps N s D (listed N s rev D p lp z).0)

  -- x is in the chain of some p
  abbrev pub In : ℕ → ℕ → Type 0
  In p x = On s half (chain_start N s p) (chain_size N s p) x

  lower_in : {x : ℕ} → Lower x → (p : ℕ) × (p < N) × In p x
  lower_in {x} L =
      let (i, h, m) = least-at (λ i. half (it s i L.d)) L.l in
      let a = path_size L.path L.lower L.some i h m in
      let b = path-start L.path L.lower L.some i h m in
      (half (it s i L.d), D.cr_lt (it s i L.d) (L.path.live i h), rw (a, b) (record { at = L.at; at_lt = omega (arith, L.within); is = L.is }))

  pub found : (e : ℕ) → e < 2 * N → s e < 2 * N → (p : ℕ) × (p < N) × In p (half e)
  found e h k = elim (ℕ_discrete (steps N s e) N) [
    | yes q ↦
        let (n, L) = steps_loop N s D e h q in
        let (p, lp, o) = closed_in N s rev D e n L in
        let c = closes_at p lp (omega (arith, o.at_lt)) in
        (p, lp, rw (closed_size p c, closed_start p c) o)
    | no q ↦
        let B = between N s D e h (omega (arith, steps_le N s D e)) in
        lower_in (oriented (half e) B.d B.l B.at B.path B.within (ap half B.is) (some B))
  ]
    where
      some : (B : Between N s D e) → 0 < B.l
      some B = elim (dec_lt 0 B.l) [
        | yes l ↦ l
        | no l ↦ let z : B.l ≡ B.at = omega (arith, B.within) in absurd (omega (arith, B.path.last, ap (λ (n : ℕ). s (it s n B.d)) z, ap s B.is))
      ]
