-- Laws of a turn.
use Prim.Native.Nat.{ℕ, zero, suc, ◌+◌, ◌<◌, ◌≤◌}
use mathlib.Core.Path.{◌∙◌, ◌≡◌, ap, refl, sym}
use mathlib.Core.Logic.{◌≢◌, ◌⊎◌, inl, inr, ⊎_elim}
use mathlib.Core.Bool.{Bool, false, true}
use mathlib.Core.List.{List}
use native.Mathlib.Decide.{dec_lt, ℕ_discrete}
use native.Mathlib.Omega.{arith}
use lib.ListN.{get_or, length, length-set, set}
use lib.Seq.{get_or-set_other, get_or-set_same}
use borrow.Author.Tests.{le-ltb, lt-ltb}
use Rattle.counting.specs.Search.{count}
use Rattle.counting.proofs.Search.{below-or, count_ext, count_le}
use Rattle.grid.specs.work.Numbered.{Does, Has, Numberable, Numbered, Ready, at_after, has, ids_after, mark_of, number_of}

-- two tests that differ at i only, which the second passes
pub count_one_more : (t u : ℕ → Bool) (i : ℕ) → t i ≡ false → u i ≡ true → ((j : ℕ) → j ≢ i → t j ≡ u j) → (N : ℕ) → i < N → count u N ≡ count t N + 1
unfolding count
count_one_more t u i e f same zero h = absurd (omega arith)
count_one_more t u i e f same (suc N) h = ⊎_elim
    (λ (q : i ≡ N). (let g = count_ext t u N (λ j l. same j (λ (z : j ≡ i). omega arith)) in rw (← q, e, f) (rw q (omega (arith, g)))))
    (λ (l : i < N). rw (same N (λ (z : N ≡ i). omega arith)) (omega (arith, count_one_more t u i e f same N l)))
    (below-or i N h)

-- item i is new, and belongs to this turn
module _ {low : ℕ → ℕ} {keys : List ℕ} {N turn base ids : ℕ} {at out : List ℕ} (w : Numbered low keys N turn base ids at out)
    (i : ℕ) (ready : Numberable keys i ids at out) (mine : low i ≡ turn) (lt : i < N) (fresh : get_or out i 0 ≡ 0) where
  K : ℕ
  K = get_or keys i 0

  -- whatever the new number q and the new at: what makes the new state
  module _ (q ids' : ℕ) (at' : List ℕ) (above : base < q) (q-le : q ≤ ids') (up : ids ≤ ids') (ids-le : ids' ≤ ids + 1)
      (own : get_or at' K 0 ≡ q) (others : (k : ℕ) → k ≢ K → get_or at' k 0 ≡ get_or at k 0)
      (new : (k : ℕ) → k ≢ K → get_or at k 0 ≢ q) (kept : base < get_or at K 0 → get_or at K 0 ≡ q) where
    O : List ℕ
    O = set out i q

    at_i : get_or O i 0 ≡ q
    unfolding O
    at_i = get_or-set_same out i q 0 ready.room

    at_j : (j : ℕ) → j ≢ i → get_or O j 0 ≡ get_or out j 0
    unfolding O
    at_j j ne = get_or-set_other out i j q 0 ne

    is_i : (j : ℕ) → (j ≡ i) ⊎ (j ≢ i)
    is_i j = elim (ℕ_discrete j i) [ yes f ↦ inl f | no f ↦ inr f ]

    is_k : (k : ℕ) → (k ≡ K) ⊎ (k ≢ K)
    is_k k = elim (ℕ_discrete k K) [ yes f ↦ inl f | no f ↦ inr f ]

    -- an item of before whose number is q has i's node and key
    met : (j : ℕ) → Has out j → get_or out j 0 ≡ q → (low j ≡ low i) × (get_or keys j 0 ≡ K)
    met j h e = elim (ℕ_discrete (low j) turn) [
      | yes t ↦ (t ∙ sym mine, ⊎_elim (λ f. f) (λ (ne : get_or keys j 0 ≢ K). absurd (new _ ne ((w.here j h t).1 ∙ e))) (is_k (get_or keys j 0)))
      | no t ↦ absurd (omega (arith, w.old j h t))
    ]

    -- and one with i's node and key has the number q
    meet : (j : ℕ) → Has out j → low j ≡ low i → get_or keys j 0 ≡ K → get_or out j 0 ≡ q
    meet j h a b =
        let g = w.here j h (a ∙ mine) in
        let e : get_or at K 0 ≡ get_or out j 0 = rw b at g.1 in
        sym e ∙ kept (omega (arith, g.0))

    before : (j : ℕ) → j ≢ i → Has O j → Has out j
    before j ne h = rw (at_j j ne) at h

    counted : count (has (set out i q)) N ≡ count (has out) N + 1
    unfolding has O
    counted = count_one_more (has out) (has O) i (rw fresh refl) (rw at_i (lt-ltb 0 q (omega arith))) (λ j ne. rw (at_j j ne) refl) N lt

    state_more : Numbered low keys N turn base ids' at' (set out i q)
    unfolding O K
    state_more = record {
      told = record {
        lows = λ a b ha hb e. both (λ a b. low a ≡ low b) (λ a. refl) (λ b h f. sym (met b h (sym f)).0) (λ a h f. (met a h f).0) w.told.lows a b ha hb e;
        keys_are = λ a b ha hb e. both (λ a b. get_or keys a 0 ≡ get_or keys b 0) (λ a. refl) (λ b h f. sym (met b h (sym f)).1) (λ a h f. (met a h f).1) w.told.keys_are a b ha hb e;
        same = λ a b ha hb e f. ⊎_elim
            (λ (x : a ≡ i). ⊎_elim
            (λ (y : b ≡ i). rw (x, y) refl)
            (λ (y : b ≢ i). rw x (at_i ∙ sym (at_j b y ∙ meet b (before b y hb) (sym (rw x at e)) (sym (rw x at f))))) (is_i b))
            (λ (x : a ≢ i). ⊎_elim
            (λ (y : b ≡ i). rw y (at_j a x ∙ meet a (before a x ha) (rw y at e) (rw y at f) ∙ sym at_i))
            (λ (y : b ≢ i). at_j a x ∙ w.told.same a b (before a x ha) (before b y hb) e f ∙ sym (at_j b y)) (is_i b)) (is_i a);
      };
      few = omega (arith, w.few, counted);
      based = omega (arith, w.based);
      top = λ k. ⊎_elim (λ (f : k ≡ K). rw f (omega (arith, own))) (λ (f : k ≢ K). omega (arith, others k f, w.top k)) (is_k k);
      once = λ k l h e. ⊎_elim
          (λ (f : k ≡ K). ⊎_elim (λ (g : l ≡ K). f ∙ sym g) (λ (g : l ≢ K). absurd (new l g (sym (others l g) ∙ sym e ∙ ap (λ (x : ℕ). get_or at' x 0) f ∙ own))) (is_k l))
          (λ (f : k ≢ K). ⊎_elim (λ (g : l ≡ K). absurd (new k f (sym (others k f) ∙ e ∙ ap (λ (x : ℕ). get_or at' x 0) g ∙ own)))
          (λ (g : l ≢ K). w.once k l (rw (others k f) at h) (sym (others k f) ∙ e ∙ others l g)) (is_k l))
          (is_k k);
      here = λ j h t. ⊎_elim
          (λ (f : j ≡ i). rw f (omega (arith, at_i), own ∙ sym at_i))
          (λ (f : j ≢ i).
          let g = w.here j (before j f h) t in
          (omega (arith, g.0, at_j j f), still j (before j f h) t ∙ sym (at_j j f))) (is_i j);
      old = λ j h t. ⊎_elim (λ (f : j ≡ i). absurd (t (ap low f ∙ mine))) (λ (f : j ≢ i). omega (arith, at_j j f, w.old j (before j f h) t)) (is_i j);
    }
      where
        both : (R : ℕ → ℕ → Type 0) → ((a : ℕ) → R a a) → ((b : ℕ) → Has out b → q ≡ get_or out b 0 → R i b) → ((a : ℕ) → Has out a → get_or out a 0 ≡ q → R a i)
            → ((a b : ℕ) → Has out a → Has out b → get_or out a 0 ≡ get_or out b 0 → R a b) → (a b : ℕ) → Has O a → Has O b → get_or O a 0 ≡ get_or O b 0 → R a b
        both R r x y z a b ha hb e = ⊎_elim
            (λ (f : a ≡ i). ⊎_elim
            (λ (g : b ≡ i). rw (f, g) (r i))
            (λ (g : b ≢ i). rw f (x b (before b g hb) (sym at_i ∙ ap (λ (x : ℕ). get_or O x 0) (sym f) ∙ e ∙ at_j b g))) (is_i b))
            (λ (f : a ≢ i). ⊎_elim
            (λ (g : b ≡ i). rw g (y a (before a f ha) (sym (at_j a f) ∙ e ∙ ap (λ (x : ℕ). get_or O x 0) g ∙ at_i)))
            (λ (g : b ≢ i). z a b (before a f ha) (before b g hb) (sym (at_j a f) ∙ e ∙ at_j b g)) (is_i b))
            (is_i a)

        still : (j : ℕ) → Has out j → low j ≡ turn → get_or at' (get_or keys j 0) 0 ≡ get_or out j 0
        still j h t = let g = w.here j h t in ⊎_elim
            (λ (f : get_or keys j 0 ≡ K). rw f (own ∙ sym (meet j h (t ∙ sym mine) f)))
            (λ (f : get_or keys j 0 ≢ K). others _ f ∙ g.1) (is_k (get_or keys j 0))

  -- `number` meets its key for the first time in this turn
  state_new : get_or at K 0 ≤ base → Numbered low keys N turn base (ids + 1) (set at (get_or keys i 0) (ids + 1)) (set out i (ids + 1))
  unfolding K
  state_new h = state_more (ids + 1) (ids + 1) (set at K (ids + 1)) (omega (arith, w.based)) (omega arith) (omega arith) (omega arith)
      (get_or-set_same at K (ids + 1) 0 ready.known) (λ k ne. get_or-set_other at K k (ids + 1) 0 ne)
      (λ k ne e. omega (arith, w.top k, e)) (λ g. absurd (omega arith))

  -- or again
  state_again : base < get_or at K 0 → Numbered low keys N turn base ids at (set out i (get_or at (get_or keys i 0) 0))
  unfolding K
  state_again h = state_more (get_or at K 0) ids at h (w.top K) (omega arith) (omega arith) refl (λ k ne. refl)
      (λ k ne e. ne (sym (w.once K k h (sym e)))) (λ g. refl)

-- `number`: by the two branches
module _ (base ids q : ℕ) where
  pub again_number : base < q → number_of base ids q ≡ q
  unfolding number_of
  again_number h = rw (lt-ltb base q h)

  pub again_ids : base < q → ids_after base ids q ≡ ids
  unfolding ids_after
  again_ids h = rw (lt-ltb base q h)

  pub again-at : (at : List ℕ) (k : ℕ) → base < q → at_after base ids q at k ≡ at
  unfolding at_after
  again-at at k h = rw (lt-ltb base q h)

  pub new_number : q ≤ base → number_of base ids q ≡ ids + 1
  unfolding number_of
  new_number h = rw (le-ltb base q h)

  pub new_ids : q ≤ base → ids_after base ids q ≡ ids + 1
  unfolding ids_after
  new_ids h = rw (le-ltb base q h)

  pub new_at : (at : List ℕ) (k : ℕ) → q ≤ base → at_after base ids q at k ≡ set at k (ids + 1)
  unfolding at_after
  new_at at k h = rw (le-ltb base q h)

set_only : (out : List ℕ) (i v j : ℕ) → Has (set out i v) j → Has out j ⊎ (j ≡ i)
set_only out i v j h = elim (ℕ_discrete j i) [ yes f ↦ inr f | no f ↦ inl (rw (get_or-set_other out i j v 0 f) at h) ]

set_keep : (out : List ℕ) (i v j : ℕ) → i < length out → 0 < v → Has out j → Has (set out i v) j
set_keep out i v j l p h = elim (ℕ_discrete j i) [ yes f ↦ rw (f, get_or-set_same out i v 0 l) p | no f ↦ rw (get_or-set_other out i j v 0 f) h ]

-- what one call of `number` does
pub does_number : (keys : List ℕ) (i base ids : ℕ) (at out : List ℕ) → Numberable keys i ids at out → (ids' : ℕ) (at' out' : List ℕ)
    → ids' ≡ ids_after base ids (mark_of keys at i) → at' ≡ at_after base ids (mark_of keys at i) at (get_or keys i 0)
    → out' ≡ set out i (number_of base ids (mark_of keys at i)) → Does (λ j. j ≡ i) keys base ids at out ids' at' out'
unfolding K
does_number keys i base ids at out ready ids' at' out' e f g =
    rw (e, f, g) (elim (dec_lt base (mark_of keys at i)) [
      | yes h ↦ rw (again_number base ids (mark_of keys at i) h, again_ids base ids (mark_of keys at i) h, again-at base ids (mark_of keys at i) at (get_or keys i 0) h) (record {
        over = λ low N turn w fits. (let x = fits i refl in state_again w i ready x.0 x.1 x.2 h);
        done = λ j q. rw (q, get_or-set_same out i (mark_of keys at i) 0 ready.room) (omega arith);
        only = set_only out i (mark_of keys at i);
        keep = λ j. set_keep out i (mark_of keys at i) j ready.room (omega arith);
        at_long = refl;
        out_long = length-set out i (mark_of keys at i);
      })
      | no h ↦ rw (new_number base ids (mark_of keys at i) (omega arith), new_ids base ids (mark_of keys at i) (omega arith), new_at base ids (mark_of keys at i) at (get_or keys i 0) (omega arith)) (record {
        over = λ low N turn w fits. (let x = fits i refl in state_new w i ready x.0 x.1 x.2 (omega arith));
        done = λ j q. rw (q, get_or-set_same out i (ids + 1) 0 ready.room) (omega arith);
        only = set_only out i (ids + 1);
        keep = λ j. set_keep out i (ids + 1) j ready.room (omega arith);
        at_long = length-set at (get_or keys i 0) (ids + 1);
        out_long = length-set out i (ids + 1);
      })
    ])

pub does_none : (P : ℕ → Type 0) (keys : List ℕ) (base ids : ℕ) (at out : List ℕ) → ((j : ℕ) → P j → ⊥) → Does P keys base ids at out ids at out
does_none P keys base ids at out none = record { over = λ low N turn w fits. w; done = λ j p. absurd (none j p); only = λ j h. inl h; keep = λ j h. h; at_long = refl; out_long = refl }

none_yet : {P : ℕ → Type 0} {keys : List ℕ} {base ids₀ : ℕ} {at₀ out₀ : List ℕ} {ids : ℕ} {at out : List ℕ} → Does P keys base ids₀ at₀ out₀ ids at out
    → (j : ℕ) → get_or out₀ j 0 ≡ 0 → (P j → ⊥) → get_or out j 0 ≡ 0
none_yet {out = out} D j z ne = elim (dec_lt 0 (get_or out j 0)) [
  | yes h ↦ ⊎_elim (λ x. absurd (omega (arith, x, z))) (λ x. absurd (ne x)) (D.only j h)
  | no h ↦ omega arith
]

-- first the items of P, then those of Q: together those of R
pub does_then : {P Q : ℕ → Type 0} {keys : List ℕ} {base ids₀ : ℕ} {at₀ out₀ : List ℕ} {ids₁ : ℕ} {at₁ out₁ : List ℕ} {ids : ℕ} {at out : List ℕ}
    → Does P keys base ids₀ at₀ out₀ ids₁ at₁ out₁ → Does Q keys base ids₁ at₁ out₁ ids at out
    → (R : ℕ → Type 0) → ((j : ℕ) → P j → R j) → ((j : ℕ) → Q j → R j) → ((j : ℕ) → R j → P j ⊎ Q j) → ((j : ℕ) → P j → Q j → ⊥)
    → Does R keys base ids₀ at₀ out₀ ids at out
does_then D E R p q r apart = record {
  over = λ low N turn w fits. E.over low N turn (D.over low N turn w (λ j x. fits j (p j x)))
      (λ j x. (let z = fits j (q j x) in (z.0, z.1, none_yet D j z.2 (λ y. apart j y x))));
  done = λ j x. ⊎_elim (λ y. E.keep j (D.done j y)) (λ y. E.done j y) (r j x);
  only = λ j h. ⊎_elim (λ y. ⊎_elim (λ z. inl z) (λ z. inr (p j z)) (D.only j y)) (λ y. inr (q j y)) (E.only j h);
  keep = λ j h. E.keep j (D.keep j h);
  at_long = E.at_long ∙ D.at_long;
  out_long = E.out_long ∙ D.out_long;
}

pub does_as : {P : ℕ → Type 0} {keys : List ℕ} {base ids₀ : ℕ} {at₀ out₀ : List ℕ} {ids : ℕ} {at out : List ℕ}
    → Does P keys base ids₀ at₀ out₀ ids at out → (R : ℕ → Type 0) → ((j : ℕ) → P j → R j) → ((j : ℕ) → R j → P j) → Does R keys base ids₀ at₀ out₀ ids at out
does_as D R p r = record {
  over = λ low N turn w fits. D.over low N turn w (λ j x. fits j (p j x));
  done = λ j x. D.done j (r j x);
  only = λ j h. ⊎_elim (λ z. inl z) (λ z. inr (p j z)) (D.only j h);
  keep = D.keep;
  at_long = D.at_long;
  out_long = D.out_long;
}

-- what was ready for R is ready for Q still, after P
pub ready_after : {R P : ℕ → Type 0} {keys : List ℕ} {base ids₀ : ℕ} {at₀ out₀ : List ℕ} {ids : ℕ} {at out : List ℕ}
    → Ready R keys base ids₀ at₀ out₀ → Does P keys base ids₀ at₀ out₀ ids at out
    → (Q : ℕ → Type 0) → ((j : ℕ) → P j → R j) → ((j : ℕ) → Q j → R j) → ((j : ℕ) → P j → Q j → ⊥) → Ready Q keys base ids at out
ready_after A D Q p q apart = record {
  low = A.low;
  N = A.N;
  turn = A.turn;
  state = D.over A.low A.N A.turn A.state (λ j x. A.fits j (p j x));
  fits = λ j x. (let z = A.fits j (q j x) in (z.0, z.1, none_yet D j z.2 (λ y. apart j y x)));
  small = A.small;
  keyed = A.keyed;
  room = omega (arith, A.room, D.out_long);
  known = λ j l. omega (arith, A.known j l, D.at_long);
}

pub ready_one : {P : ℕ → Type 0} {keys : List ℕ} {base ids : ℕ} {at out : List ℕ} → Ready P keys base ids at out → (i : ℕ) → P i → Numberable keys i ids at out
ready_one {out = out} A i p =
    let z = A.fits i p in
    record { keyed = omega (arith, A.keyed, z.1); room = omega (arith, A.room, z.1); known = A.known i z.1; few = omega (arith, A.state.few, count_le (has out) A.N, A.small) }

-- what the two branches of `number` leave
module _ (keys at out : List ℕ) (i base ids key : ℕ) (e : key ≡ get_or keys i 0) where
  pub branch_again : base < get_or at key 0 → (ids ≡ ids_after base ids (mark_of keys at i)) × (at ≡ at_after base ids (mark_of keys at i) at (get_or keys i 0))
      × (set out i (get_or at key 0) ≡ set out i (number_of base ids (mark_of keys at i)))
  branch_again h = rw (← e) (rw (again_ids base ids (get_or at key 0) h, again-at base ids (get_or at key 0) at key h, again_number base ids (get_or at key 0) h) (refl, refl, refl))

  pub branch_new : get_or at key 0 ≤ base → (ids + 1 ≡ ids_after base ids (mark_of keys at i)) × (set at key (ids + 1) ≡ at_after base ids (mark_of keys at i) at (get_or keys i 0))
      × (set out i (ids + 1) ≡ set out i (number_of base ids (mark_of keys at i)))
  branch_new h = rw (← e) (rw (new_ids base ids (get_or at key 0) h, new_at base ids (get_or at key 0) at key h, new_number base ids (get_or at key 0) h) (refl, refl, refl))
