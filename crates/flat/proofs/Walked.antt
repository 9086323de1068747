-- Walks over a table of the step, and the chain that they find.
use Rattle.std.specs.Prelude.{Option, None}
use Prim.Native.Nat.{ℕ, suc, ◌+◌, ◌*◌, ◌/◌, ◌≤◌, ◌<◌}
use mathlib.Core.Path.{◌≡◌, refl, sym, ap, ◌∙◌, subst}
use mathlib.Core.Logic.{◌⊎◌, ◌≢◌, inl, inr, ⊎_elim}
use mathlib.Core.Bool.{Bool, true, false}
use mathlib.Core.List.{List, []}
use native.Mathlib.Decide.{dec_lt, ℕ_discrete}
use native.Mathlib.Omega.{arith}
use lib.ListN.{get_or, length, length-set, set}
use lib.Seq.{get_or-set_other, get_or-set_same, length-sets, sets}
use borrow.Author.Tests.{eq-eqb, lt-ltb, le-ltb, ne_eqb}
use Rattle.counting.specs.Lists.{one, over, values, it}
use Rattle.counting.specs.work.Stored.{Stored}
use Rattle.counting.proofs.Below.{trichotomy}
use Rattle.counting.proofs.Lists.{length_singles}
use Rattle.counting.proofs.Pigeon.{pigeonhole}
use Rattle.counting.proofs.Stored.{sets_more, stored_fits, stored_more, stored_none}
use Rattle.walk.specs.Darts.{half, rev, Loop, On}
use Rattle.walk.specs.claims.Claims.{Darts}
use Rattle.walk.proofs.Iterate.{it_suc}
use Rattle.walk.proofs.Curve as curve
use Rattle.walk.proofs.Step.{rev_darts}
use Rattle.flat.specs.Chain.{steps, closes, last_dart, path_steps, path_start, is_path, chain_size, chain_start, chain_words, all_chain_words}
use Rattle.flat.specs.declared.walks.Chain.{Chain}
use Rattle.flat.specs.work.Work.{ChainOf, Finds, Fresh, InChain, StepTable, MarkedOn, Ran, DartsFrom, Swept, step_in, start_by, words_by}
use Rattle.flat.proofs.Taken.{loop_steps, on_steps, taken_is}
use Rattle.flat.proofs.Curves.{closed_loop, closed_start, found, held, open_none, open_size, open_start}
use Rattle.flat.proofs.Once.{one_chain}

-- an entry of the table
pub along_at : (N : ℕ) (next : List ℕ) (d : ℕ) → d < 2 * N → step_in N next d ≡ get_or next d 0
unfolding step_in
along_at N next d h = rw (lt-ltb d (2 * N) h)

pub along_off : (N : ℕ) (next : List ℕ) (d : ℕ) → 2 * N ≤ d → step_in N next d ≡ 2 * N
unfolding step_in
along_off N next d h = rw (le-ltb d (2 * N) h)

module _ (N : ℕ) (s : ℕ → ℕ) where
  -- A WALK UNDER WAY: k steps lead from d to e, and never back to d
  pub record Running (d k e : ℕ) : Type 0 where
    pub live : (i : ℕ) → i ≤ k → it s i d < 2 * N
    pub is : it s k d ≡ e
    pub away : (i : ℕ) → 0 < i → i ≤ k → it s i d ≢ d

  pub running_none : (d : ℕ) → d < 2 * N → Running d 0 d
  unfolding it
  running_none d h = record {
    live = λ i l. let z : i ≡ 0 = omega arith in rw z h;
    is = refl;
    away = λ i p l q. omega arith;
  }

  module _ {d k e : ℕ} (R : Running d k e) where
    pub running_lt : e < 2 * N
    running_lt = rw (← R.is) (R.live k (omega arith))

    on : it s (k + 1) d ≡ s e
    on = let z : k + 1 ≡ suc k = omega arith in rw z (it_suc s k d ∙ ap s R.is)

    upto : (P : ℕ → Type 0) → ((i : ℕ) → i ≤ k → P i) → P (k + 1) → (i : ℕ) → i ≤ k + 1 → P i
    upto P a b i h = elim (dec_lt i (k + 1)) [
      | yes l ↦ a i (omega arith)
      | no l ↦ let z : k + 1 ≡ i = omega arith in subst P z b
    ]

    pub running_more : s e ≢ d → s e < 2 * N → Running d (k + 1) (s e)
    running_more n l = record {
      live = upto (λ i. it s i d < 2 * N) R.live (rw on l);
      is = on;
      away = λ i p h. upto (λ i. 0 < i → it s i d ≢ d) (λ i h p. R.away i p h) (λ p q. n (sym on ∙ q)) i h p;
    }

    pub running_stop : (s e ≡ d) ⊎ (2 * N ≤ s e) → Ran N s d k e
    running_stop t = record { live = R.live; is = R.is; away = R.away; stops = t }

  pub ran_lt : {d k e : ℕ} → Ran N s d k e → e < 2 * N
  ran_lt {d} {k} R = rw (← R.is) (R.live k (omega arith))

  -- MARKS

  -- the crossings of i of the m darts from d on are marked
  pub record Marking (d m : ℕ) (was : List ℕ) (e i : ℕ) (marks : List ℕ) : Type 0 where
    pub within : i ≤ m
    pub room : N ≤ length was
    pub is : e ≡ it s i d
    pub marked : MarkedOn N s d i was marks

  pub marked_zero : {d m : ℕ} (marks : List ℕ) → m ≡ 0 → MarkedOn N s d m marks marks
  marked_zero marks z = record { same = refl; hit = λ x l o. absurd (omega (arith, o.at_lt)); kept = λ x q. q; only = λ x l. inl refl }

  pub marking_none : (d m : ℕ) (marks : List ℕ) → N ≤ length marks → Marking d m marks d 0 marks
  unfolding it
  marking_none d m marks h = record {
    within = omega arith;
    room = h;
    is = refl;
    marked = marked_zero marks refl;
  }

  module _ {d m : ℕ} {was : List ℕ} {e i : ℕ} {marks : List ℕ} (R : DartsFrom N s d m) (M : Marking d m was e i marks) (l : i < m) where
    pub marking_lt : e < 2 * N
    marking_lt = rw M.is (R i l)

    place : half e < length marks
    place = omega (arith, marking_lt, M.room, M.marked.same)

    next : suc i ≡ i + 1
    next = omega arith

    still : (x : ℕ) → get_or marks x 0 ≡ 1 → get_or (set marks (half e) 1) x 0 ≡ 1
    still x q = elim (ℕ_discrete x (half e)) [
      | yes z ↦ rw z (get_or-set_same marks (half e) 1 0 place)
      | no z ↦ get_or-set_other marks (half e) x 1 0 z ∙ q
    ]

    pub marking_more : Marking d m was (s e) (i + 1) (set marks (half e) 1)
    marking_more = record {
      within = omega arith;
      room = M.room;
      is = rw (← next) (ap s M.is ∙ sym (it_suc s i d));
      marked = record {
        same = length-set marks (half e) 1 ∙ M.marked.same;
        hit = λ x lx o. elim (dec_lt o.at i) [
          | yes a ↦ still x (M.marked.hit x lx (record { at = o.at; at_lt = a; is = o.is }))
          | no a ↦
              let z : o.at ≡ i = omega (arith, o.at_lt) in
              let y : x ≡ half e = sym o.is ∙ ap (λ (i : ℕ). half (it s i d)) z ∙ sym (ap half M.is) in
              rw y (get_or-set_same marks (half e) 1 0 place)
        ];
        kept = λ x q. still x (M.marked.kept x q);
        only = λ x lx. elim (ℕ_discrete x (half e)) [
          | yes z ↦ inr (record { at = i; at_lt = omega arith; is = sym (z ∙ ap half M.is) })
          | no z ↦ elim (M.marked.only x lx) [
            | inl q ↦ inl (get_or-set_other marks (half e) x 1 0 z ∙ q)
            | inr o ↦ inr (record { at = o.at; at_lt = omega (arith, o.at_lt); is = o.is })
          ]
        ];
      };
    }

  pub marking_all : {d m : ℕ} {was : List ℕ} {e i : ℕ} {marks : List ℕ} → Marking d m was e i marks → m ≤ i → MarkedOn N s d m was marks
  marking_all {d} {m} {was} {e} {i} {marks} M l = let z : i ≡ m = omega (arith, M.within) in subst (λ i. MarkedOn N s d i was marks) z M.marked

  -- no marks before the first crossing
  pub swept_none : (marks : List ℕ) → N ≤ length marks → ((x : ℕ) → get_or marks x 0 ≡ 0) → Swept N s 0 marks
  swept_none marks h z = record { room = h; hit = λ q x l lx o. absurd (omega arith); only = λ x l. inl (z x) }

  -- WORDS

  -- the words of the chains whose least crossing is below p are written
  pub record Writing (was area : List ℕ) (p at : ℕ) (marks : List ℕ) : Type 0 where
    pub within : p ≤ N
    pub fits : length (over (chain_words N s) N 0) ≤ length was
    pub stored : Stored was 0 (over (chain_words N s) p 0) area at
    pub swept : Swept N s p marks

  -- the crossings of i of the m darts from d on are written
  pub record Listing (d m at : ℕ) (was : List ℕ) (e i : ℕ) (area : List ℕ) : Type 0 where
    pub within : i ≤ m
    pub is : e ≡ it s i d
    pub area_is : area ≡ sets was at (values (λ i. half (it s i d)) i)

  pub listing_none : (d m at : ℕ) (was : List ℕ) → Listing d m at was d 0 was
  unfolding it over
  listing_none d m at was = record { within = omega arith; is = refl; area_is = refl }

  module _ {d m at : ℕ} {was : List ℕ} {e i : ℕ} {area : List ℕ} (M : Listing d m at was e i area) where
    pub listing_long : length area ≡ length was
    listing_long = ap length M.area_is ∙ length-sets was at (values (λ i. half (it s i d)) i)

    pub listing_lt : DartsFrom N s d m → i < m → e < 2 * N
    listing_lt R l = rw M.is (R i l)

    pub listing_more : i < m → Listing d m at was (s e) (i + 1) (set area (at + i) (half e))
    listing_more l = record {
      within = omega arith;
      is = let z : suc i ≡ i + 1 = omega arith in rw (← z) (ap s M.is ∙ sym (it_suc s i d));
      area_is = sets_more (λ i. half (it s i d)) at i was area (at + i) (half e) M.area_is refl (ap half M.is);
    }

    pub listing_all : m ≤ i → area ≡ sets was at (values (λ i. half (it s i d)) m)
    listing_all l = let z : i ≡ m = omega (arith, M.within) in M.area_is ∙ ap (λ (i : ℕ). sets was at (values (λ i. half (it s i d)) i)) z

  pub writing_none : (was marks : List ℕ) → length (over (chain_words N s) N 0) ≤ length was → Swept N s 0 marks → Writing was was 0 0 marks
  unfolding over
  writing_none was marks h w = record { within = omega arith; fits = h; stored = stored_none was 0; swept = w }

-- the number of words
pub words_length : (N : ℕ) (s : ℕ → ℕ) (c : Chain) → length (words_by N s c) ≡ c.size + 2
unfolding words_by
words_length N s c = omega (arith, length_singles (λ i. half (it s i c.start)) c.size 0)

module _ (N : ℕ) (s : ℕ → ℕ) (D : Darts (2 * N) N s rev half) where
  -- a walk has fewer steps than there are crossings
  pub walk_short : {d k : ℕ} → ((i : ℕ) → i ≤ k → it s i d < 2 * N) → ((i : ℕ) → 0 < i → i ≤ k → it s i d ≢ d) → k < N
  walk_short {d} {k} live away = elim (dec_lt k N) [
    | yes h ↦ h
    | no h ↦ absurd (go (omega arith) (curve.closes (2 * N) N s rev half D d (λ i m. live i (omega arith))))
  ]
    where
      go : N ≤ k → (j : ℕ) × (j ≤ N) × Loop (2 * N) s d j → ⊥
      go h (j, m, L) = away j L.pos (omega arith) L.home

  module _ {d k e : ℕ} (R : Ran N s d k e) where
    after : it s (suc k) d ≡ s e
    after = it_suc s k d ∙ ap s R.is

    pub ran_short : k < N
    ran_short = walk_short R.live R.away

    pub ran_loop : s e ≡ d → Loop (2 * N) s d (suc k)
    unfolding it
    ran_loop q = record {
      pos = omega arith;
      live = λ i h. elim (dec_lt i (suc k)) [
        | yes l ↦ R.live i (omega arith)
        | no l ↦ let z : i ≡ suc k = omega arith in rw (z, after, q) (R.live 0 (omega arith))
      ];
      home = after ∙ q;
      first = λ i p h. R.away i p (omega arith);
    }

    pub ran_steps : 2 * N ≤ s e → steps N s d ≡ k
    unfolding steps
    ran_steps l = taken_is N s N k d ran_short (λ i h. R.live (suc i) (omega arith)) (rw after l)

    pub ran_last : 2 * N ≤ s e → last_dart N s d ≡ e
    unfolding last_dart
    ran_last l = rw (ran_steps l) R.is

  -- THE CHAIN OF p, of no chain with a lower least crossing
  module _ (p : ℕ) (h : p < N) (F : Fresh N s p) where
    -- it is the chain that a dart of p with a segment is in
    found_here : (e : ℕ) → e < 2 * N → half e ≡ p → s e < 2 * N → 0 < chain_size N s p
    found_here e l q m =
        let (c, lc, o) = found N s D e l m in
        let z : c ≡ p = trichotomy c p (λ a. absurd (F c a (subst (λ x. InChain N s c x) q o)))
        (λ a. absurd (omega (arith, (held N s D c lc (omega (arith, o.at_lt))).least (half e) o))) (λ a. a) in
        omega (arith, o.at_lt, ap (chain_size N s) z)

    first_half : half (2 * p) ≡ p
    first_half = omega arith

    pub closed_finds : {k e : ℕ} → Ran N s (2 * p) k e → s e ≡ 2 * p → ChainOf N s p (record { closed = true; size = k + 1; start = 2 * p })
    unfolding closes it
    closed_finds {k} {e} R q =
        let L = ran_loop R q in
        let c : closes N s p ≡ true = eq-eqb (steps N s (2 * p)) N (loop_steps N s D L) in
        let z = found_here (2 * p) (omega arith) first_half (L.live 1 (omega arith)) in
        let K = (closed_loop N s D p h z c).0 in
        record {
          some = z;
          size_is = omega (arith, curve.loop_length (2 * N) N s rev half D L K);
          start_is = sym (closed_start N s D p c);
          closed_is = sym c;
        }

    module _ {k e l f : ℕ} (R : Ran N s (2 * p) k e) (T : Ran N s (2 * p + 1) l f) (stops : s e ≢ 2 * p) where
      first_ends : 2 * N ≤ s e
      first_ends = ⊎_elim (λ q. absurd (stops q)) (λ q. q) R.stops

      second_half : half (2 * p + 1) ≡ half (2 * p)
      second_half = omega arith

      on-first : {d k x : ℕ} → Loop (2 * N) s d k → half d ≡ x → On s half d k x
      unfolding it
      on-first L q = record { at = 0; at_lt = L.pos; is = q }

      second_ends : 2 * N ≤ s f
      second_ends = ⊎_elim
          (λ q.
          let L = ran_loop T q in
          absurd (omega (arith, on_steps N s D L (2 * p) (omega arith) (on-first L second_half), ran_steps R first_ends, ran_short R)))
          (λ q. q) T.stops

      open_here : closes N s p ≡ false
      unfolding closes
      open_here = ne_eqb (steps N s (2 * p)) N (λ q. omega (arith, ran_steps R first_ends, ran_short R))

      path_is : path_steps N s p ≡ k + l
      unfolding path_steps
      path_is = omega (arith, ran_steps R first_ends, ran_steps T second_ends)

      start_same : path_start N s p ≡ start_by e f
      unfolding path_start start_by
      start_same = rw (ran_last R first_ends, ran_last T second_ends)

      none : k + l ≡ 0 → is_path N s p ≡ false
      unfolding is_path
      none z = rw (path_is, z)

      walks : 0 < k + l → 0 < chain_size N s p
      unfolding it
      walks z = elim (dec_lt 0 k) [
        | yes m ↦ found_here (2 * p) (omega arith) first_half (R.live 1 (omega arith))
        | no m ↦ found_here (2 * p + 1) (omega arith) (second_half ∙ first_half) (T.live 1 (omega arith))
      ]

      pub none_finds : k + l ≡ 0 → chain_size N s p ≡ 0
      none_finds z = open_none N s D p open_here (none z)

      size_same : k + l ≢ 0 → k + l + 1 ≡ chain_size N s p
      size_same z = go (is_path N s p) refl
        where
          go : (b : Bool) → is_path N s p ≡ b → k + l + 1 ≡ chain_size N s p
          go true q = omega (arith, open_size N s D p open_here q, path_is)
          go false q = absurd (omega (arith, walks (omega arith), open_none N s D p open_here q))

      pub open_finds : k + l ≢ 0 → ChainOf N s p (record { closed = false; size = k + l + 1; start = start_by e f })
      open_finds z = record {
        some = omega (arith, size_same z);
        size_is = size_same z;
        start_is = sym (open_start N s D p open_here ∙ start_same);
        closed_is = sym open_here;
      }

  -- no chain has more crossings than there are
  pub chain_short : (p : ℕ) → p < N → chain_size N s p ≤ N
  chain_short p h = elim (dec_lt N (chain_size N s p)) [
    | yes l ↦
        let H = held N s D p h (omega arith) in
        absurd (pigeonhole N (λ i. half (it s i (chain_start N s p))) (λ i m. D.cr_lt (it s i (chain_start N s p)) (H.darted.live i (omega arith)))
        (λ i j a b q. let z = H.darted.apart i j (omega arith) (omega arith) q in omega arith))
    | no l ↦ omega arith
  ]

  -- none is found
  pub finds_none : (p : ℕ) {o : Option Chain} → Finds N s p o → o ≡ None → chain_size N s p ≡ 0
  finds_none p F e = subst (Finds N s p) e F

  -- its darts
  pub chain_runs : (p : ℕ) → p < N → DartsFrom N s (chain_start N s p) (chain_size N s p)
  chain_runs p h i l = (held N s D p h (omega arith)).darted.live i (omega arith)

  -- WHAT IS FOUND
  module _ {p : ℕ} {c : Chain} (h : p < N) (C : ChainOf N s p c) where
    pub finds_runs : DartsFrom N s c.start c.size
    finds_runs = rw (C.start_is, C.size_is) (chain_runs p h)

    pub finds_short : c.size ≤ N
    finds_short = omega (arith, C.size_is, chain_short p h)

    pub finds_words : words_by N s c ≡ chain_words N s p
    unfolding words_by chain_words
    finds_words = rw (ne_eqb (chain_size N s p) 0 (λ q. omega (arith, C.some)), C.closed_is, C.start_is, C.size_is)

    -- the marks of the chain make those of all chains up to it
    pub finds_swept : {was marks : List ℕ} → Swept N s p was → MarkedOn N s c.start c.size was marks → Swept N s (p + 1) marks
    finds_swept {was} {marks} W M = record {
      room = omega (arith, W.room, M.same);
      hit = λ q x l lx o. elim (dec_lt q p) [
        | yes m ↦ M.kept x (W.hit q x m lx o)
        | no m ↦ let z : q ≡ p = omega arith in M.hit x lx (here (subst (λ q. InChain N s q x) z o))
      ];
      only = λ x lx. elim (M.only x lx) [
        | inl e ↦ elim (W.only x lx) [
          | inl z ↦ inl (e ∙ z)
          | inr w ↦ inr (w.0, omega (arith, w.1), w.2)
        ]
        | inr o ↦ inr (p, omega arith, there o)
      ];
    }
      where
        here : {x : ℕ} → InChain N s p x → On s half c.start c.size x
        here o = rw (C.size_is, C.start_is) o

        there : {x : ℕ} → On s half c.start c.size x → InChain N s p x
        there o = rw (← C.size_is, ← C.start_is) o

  -- MARKS OVER ALL CROSSINGS
  module _ {p : ℕ} {marks : List ℕ} (h : p < N) (W : Swept N s p marks) where
    -- a crossing without a mark is in none of the chains
    pub swept_fresh : get_or marks p 0 ≡ 0 → Fresh N s p
    swept_fresh z q l o = omega (arith, W.hit q p l h o)

    -- one with a mark is no least crossing
    pub marked_none : get_or marks p 0 ≢ 0 → chain_size N s p ≡ 0
    marked_none n = elim (ℕ_discrete (chain_size N s p) 0) [
      | yes z ↦ z
      | no z ↦ absurd (⊎_elim n
          (λ w. omega (arith, w.1, one_chain N s D w.0 p p (omega (arith, w.1)) h w.2 (held N s D p h (omega arith)).has)) (W.only p h))
    ]

    no_words : chain_size N s p ≡ 0 → chain_words N s p ≡ []
    unfolding chain_words
    no_words e = rw (eq-eqb (chain_size N s p) 0 e)

    none_swept : chain_size N s p ≡ 0 → Swept N s (p + 1) marks
    none_swept e = record {
      room = W.room;
      hit = λ q x l lx o. elim (dec_lt q p) [
        | yes m ↦ W.hit q x m lx o
        | no m ↦ let z : q ≡ p = omega arith in absurd (omega (arith, o.at_lt, ap (chain_size N s) z, e))
      ];
      only = λ x lx. elim (W.only x lx) [
        | inl z ↦ inl z
        | inr w ↦ inr (w.0, omega (arith, w.1), w.2)
      ];
    }

  -- ONE MORE CROSSING: it has a mark, or its chain is found
  module _ {was area : List ℕ} {p at : ℕ} {marks : List ℕ} (C : Writing N s was area p at marks) (h : p < N) where
    pub writing_none_at : chain_size N s p ≡ 0 → Writing N s was area (p + 1) at marks
    writing_none_at e = record {
      within = omega arith;
      fits = C.fits;
      stored = stored_more (chain_words N s) p C.stored (rw (no_words h C.swept e) (stored_none area at));
      swept = none_swept h C.swept e;
    }

    pub writing_marked : get_or marks p 0 ≢ 0 → Writing N s was area (p + 1) at marks
    writing_marked n = writing_none_at (marked_none h C.swept n)

    pub writing_room : {c : Chain} → ChainOf N s p c → at + length (words_by N s c) ≤ length area
    writing_room F = rw (finds_words h F) (stored_fits (chain_words N s) N p C.stored h (omega (arith, C.fits)))

    pub writing_more : {c : Chain} {next : ℕ} {marks' area' : List ℕ} → ChainOf N s p c → MarkedOn N s c.start c.size marks marks'
        → Stored area at (words_by N s c) area' next → Writing N s was area' (p + 1) next marks'
    writing_more F M S = record {
      within = omega arith;
      fits = C.fits;
      stored = stored_more (chain_words N s) p C.stored (rw (← finds_words h F) S);
      swept = finds_swept h F C.swept M;
    }

  pub writing_all : {was area : List ℕ} {p at : ℕ} {marks : List ℕ} → Writing N s was area p at marks → N ≤ p → area ≡ sets was 0 (all_chain_words N s)
  unfolding all_chain_words
  writing_all {was} {area} {p} C l = let z : p ≡ N = omega (arith, C.within) in C.stored.area ∙ ap (λ (p : ℕ). sets was 0 (over (chain_words N s) p 0)) z

  pub writing_at : {was area : List ℕ} {p at : ℕ} {marks : List ℕ} → Writing N s was area p at marks → N ≤ p → at ≡ length (all_chain_words N s)
  unfolding all_chain_words
  writing_at {p = p} {at = at} C l = let z : p ≡ N = omega (arith, C.within) in
      let q : at ≡ length (over (chain_words N s) p 0) = omega (arith, C.stored.after) in
      q ∙ ap (λ (p : ℕ). length (over (chain_words N s) p 0)) z

-- the laws of the step that a table holds
pub turns : {N : ℕ} {next : List ℕ} → StepTable N next → Darts (2 * N) N (step_in N next) rev half
turns {N} {next} L = rev_darts N (step_in N next) L.back L.apart

-- THE SAME OVER A TABLE, whose entry at e has been read as f
module _ {N : ℕ} {next : List ℕ} (L : StepTable N next) where
  module _ {d k e : ℕ} (R : Running N (step_in N next) d k e) where
    pub run_read : e < length next
    run_read = omega (arith, running_lt N (step_in N next) R, L.whole)

    pub run_short : k < N
    run_short = walk_short N (step_in N next) (turns L) R.live R.away

    module _ (f : ℕ) (q : f ≡ get_or next e 0) where
      entry : step_in N next e ≡ f
      entry = along_at N next e (running_lt N (step_in N next) R) ∙ sym q

      pub run_home : f ≡ d → Ran N (step_in N next) d k e
      run_home h = running_stop N (step_in N next) R (inl (entry ∙ h))

      pub run-end : 2 * N ≤ f → Ran N (step_in N next) d k e
      run-end h = running_stop N (step_in N next) R (inr (rw entry h))

      pub run_more : f ≢ d → f < 2 * N → Running N (step_in N next) d (k + 1) f
      run_more n l = rw entry at (running_more N (step_in N next) R (λ z. n (sym entry ∙ z)) (rw entry l))

  pub ran_read : {d k e : ℕ} → Ran N (step_in N next) d k e → e < length next
  ran_read R = omega (arith, ran_lt N (step_in N next) R, L.whole)

  pub ran_entry : {d k e f : ℕ} → Ran N (step_in N next) d k e → f ≡ get_or next e 0 → step_in N next e ≡ f
  ran_entry {d} {k} {e} R q = along_at N next e (ran_lt N (step_in N next) R) ∙ sym q

  module _ {d m : ℕ} {was : List ℕ} {e i : ℕ} {marks : List ℕ} (R : DartsFrom N (step_in N next) d m) (M : Marking N (step_in N next) d m was e i marks) (l : i < m) where
    pub mark_place : e / 2 < length marks
    mark_place = omega (arith, marking_lt N (step_in N next) R M l, M.room, M.marked.same)

    pub mark_more : (f : ℕ) → f ≡ get_or next e 0 → Marking N (step_in N next) d m was f (i + 1) (set marks (e / 2) 1)
    mark_more f q =
        let z : step_in N next e ≡ f = along_at N next e (marking_lt N (step_in N next) R M l) ∙ sym q in
        rw z at (marking_more N (step_in N next) R M l)

  module _ {d m at : ℕ} {was : List ℕ} {e i : ℕ} {area : List ℕ} (R : DartsFrom N (step_in N next) d m) (M : Listing N (step_in N next) d m at was e i area) (l : i < m) where
    pub list_read : e < length next
    list_read = omega (arith, listing_lt N (step_in N next) M R l, L.whole)

    pub list_few : e < 131070
    list_few = omega (arith, listing_lt N (step_in N next) M R l, L.few)

    pub list_more : (f : ℕ) → f ≡ get_or next e 0 → Listing N (step_in N next) d m at was f (i + 1) (set area (at + i) (e / 2))
    list_more f q =
        let z : step_in N next e ≡ f = along_at N next e (listing_lt N (step_in N next) M R l) ∙ sym q in
        rw z at (listing_more N (step_in N next) M l)

-- THE WORDS OF ONE CHAIN written
module _ (N : ℕ) (s : ℕ → ℕ) (c : Chain) where
  pub chain_room : (at room : ℕ) → at + length (words_by N s c) ≤ room → at + c.size + 2 ≤ room
  chain_room at room h = omega (arith, words_length N s c)

  pub chain_stored : (was area : List ℕ) (at : ℕ)
      → area ≡ sets (set (set was at (one c.closed)) (at + 1) c.size) (at + 2) (values (λ i. half (it s i c.start)) c.size)
      → Stored was at (words_by N s c) area (at + 2 + c.size)
  unfolding words_by
  chain_stored was area at q =
      let a : at + 1 ≡ suc at = omega arith in
      let b : at + 2 ≡ suc (suc at) = omega arith in
      record {
        area = q ∙ rw (a, b);
        after = omega (arith, length_singles (λ i. half (it s i c.start)) c.size 0);
      }
