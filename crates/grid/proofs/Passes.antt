-- Chains of cells, the pass over all labels, and the labels themselves.
use Prim.Native.Nat.{ℕ, ◌+◌, ◌*◌, ◌/◌, ◌%◌, ◌<◌, ◌≤◌}
use mathlib.Core.Path.{◌∙◌, ◌≡◌, refl, sym}
use mathlib.Core.Logic.{◌⊎◌, inl, inr, ⊎_elim}
use mathlib.Core.List.{List}
use native.Mathlib.Decide.{dec_lt, ℕ_discrete}
use native.Mathlib.Nat.{not-suc-le-zero}
use native.Mathlib.Omega.{arith}
use lib.ListN.{get_or, length, length-set, set}
use lib.Seq.{get_or-set_other, get_or-set_same}
use borrow.Author.Tests.{eq-eqb, ne_eqb}
use Rattle.counting.specs.Search.{count, last}
use Rattle.counting.proofs.Search.{count_le, last_hit, last_miss, last_none}
use Rattle.grid.specs.work.Numbered.{Does, Has, Numberable, Numbered, Ready, Told, has}
use Rattle.grid.specs.work.Walks.{Along, Course, Coursed, Labelling, Labels, Linked, Passable, Passed, Walkable, Walks, labelled}
use Rattle.grid.proofs.Turns.{does_none, does_then, ready_after, ready_one}

-- the loop of `link` has put the first c cells
pub record Linking (f : ℕ → ℕ) (head next : List ℕ) (c : ℕ) : Type 0 where
  pub nexts : (x : ℕ) → x < c → get_or next x 0 ≡ last (labelled f (f x)) x
  pub heads : (r : ℕ) → r < length head → get_or head r 0 ≡ last (labelled f r) c

pub linking_none : (f : ℕ → ℕ) (head next : List ℕ) → ((r : ℕ) → get_or head r 0 ≡ 0) → Linking f head next 0
linking_none f head next z = record { nexts = λ x h. absurd (not-suc-le-zero h); heads = λ r h. z r ∙ sym (last_none (labelled f r)) }

pub linking_more : {f : ℕ → ℕ} {head next : List ℕ} {c : ℕ} → Linking f head next c → (h : ℕ) → h ≡ f c → h < length head → c < length next
    → Linking f (set head h (c + 1)) (set next c (get_or head h 0)) (c + 1)
unfolding labelled
linking_more {f} {head} {next} {c} w h e l m = record {
  nexts = λ x k. elim (ℕ_discrete x c) [
    | yes q ↦ rw q (get_or-set_same next c (get_or head h 0) 0 m ∙ rw (← e) (w.heads h l))
    | no q ↦ get_or-set_other next c x (get_or head h 0) 0 q ∙ w.nexts x (omega arith)
  ];
  heads = λ r k. elim (ℕ_discrete r h) [
    | yes q ↦ rw (q, get_or-set_same head h (c + 1) 0 l) (sym (last_hit (labelled f h) c (eq-eqb (f c) h (sym e))))
    | no q ↦ get_or-set_other head h r (c + 1) 0 q ∙ w.heads r (omega (arith, length-set head h (c + 1))) ∙ sym (last_miss (labelled f r) c (ne_eqb (f c) r (λ z. q (sym (e ∙ z)))))
  ];
}

pub linking_end : {f : ℕ → ℕ} {head next : List ℕ} {n : ℕ} → Linking f head next n → (T : ℕ) → T ≡ length head → n ≤ length next → Linked f T n head next
linking_end w T e m = record { heads = record { room = omega arith; at = λ r h. w.heads r (omega arith) }; nexts = record { room = m; at = w.nexts } }

-- between the turns: those of the labels below r are over
pub record Turned (f g low : ℕ → ℕ) (n a b p q : ℕ) (keys : List ℕ) (r ids : ℕ) (at out : List ℕ) : Type 0 where
  pub told : Told low keys out
  pub few : ids ≤ count (has out) (4 * n)
  pub top : (k : ℕ) → get_or at k 0 ≤ ids
  pub within : (j : ℕ) → get_or out j 0 ≤ ids
  pub only : (j : ℕ) → Has out j → low j < r
  pub done_a : (j : ℕ) → j / 4 < n → f (j / 4) < r → a ≤ j % 4 → j % 4 < b → Has out j
  pub done_b : (j : ℕ) → j / 4 < n → g (j / 4) < r → p ≤ j % 4 → j % 4 < q → Has out j

-- the items of turn r
pub record Turn (f g : ℕ → ℕ) (r n a b p q j : ℕ) : Type 0 where
  pub is : Along f r 0 n a b j ⊎ Along g r 0 n p q j

module _ {f g low : ℕ → ℕ} {T n : ℕ} {ha na : List ℕ} {a b : ℕ} {hb nb : List ℕ} {p q : ℕ} {keys : List ℕ} {many : ℕ} {at₀ out₀ : List ℕ}
    (C : Course f g low T n ha na a b hb nb p q keys many at₀ out₀) where
  pub turned_none : Turned f g low n a b p q keys 0 0 at₀ out₀
  turned_none = record {
    told = record { lows = λ i j h. absurd (no_one i h); keys_are = λ i j h. absurd (no_one i h); same = λ i j h. absurd (no_one i h) };
    few = omega arith;
    top = λ k. omega (arith, C.at_blank k);
    within = λ j. omega (arith, C.out_blank j);
    only = λ j h. absurd (no_one j h);
    done_a = λ j h l. absurd (not-suc-le-zero l);
    done_b = λ j h l. absurd (not-suc-le-zero l);
  }
    where
      no_one : (j : ℕ) → Has out₀ j → ⊥
      no_one j h = omega (arith, C.out_blank j)

  module _ {r ids : ℕ} {at out : List ℕ} (w : Turned f g low n a b p q keys r ids at out) (lt : r < many) where
    turn_low : (j : ℕ) → Turn f g r n a b p q j → low j ≡ r
    turn_low j t = ⊎_elim (λ (x : Along f r 0 n a b j). C.low_a j x.low x.high ∙ x.label) (λ (x : Along g r 0 n p q j). C.low_b j x.low x.high ∙ x.label) t.is

    turn_lt : (j : ℕ) → Turn f g r n a b p q j → j < 4 * n
    turn_lt j t = ⊎_elim (λ (x : Along f r 0 n a b j). omega (arith, x.to)) (λ (x : Along g r 0 n p q j). omega (arith, x.to)) t.is

    opens : Numbered low keys (4 * n) r ids ids at out
    opens = record {
      told = w.told;
      few = w.few;
      based = omega arith;
      top = w.top;
      once = λ k l h. absurd (omega (arith, w.top k));
      here = λ j h e. absurd (omega (arith, w.only j h));
      old = λ j h e. w.within j;
    }

    fits : (j : ℕ) → Turn f g r n a b p q j → (low j ≡ r) × (j < 4 * n) × (get_or out j 0 ≡ 0)
    fits j t = (turn_low j t, turn_lt j t, elim (dec_lt 0 (get_or out j 0)) [ yes h ↦ absurd (omega (arith, w.only j h, turn_low j t)) | no h ↦ omega arith ])

    turn_ready : length at ≡ length at₀ → length out ≡ length out₀ → Ready (Turn f g r n a b p q) keys ids ids at out
    turn_ready la lo = record {
      low = low;
      N = 4 * n;
      turn = r;
      state = opens;
      fits = fits;
      small = C.small;
      keyed = C.keyed;
      room = omega (arith, C.room);
      known = λ j l. omega (arith, C.known j l);
    }

    pub turn_a : length at ≡ length at₀ → length out ≡ length out₀ → Walkable ha na r a b keys ids ids at out
    turn_a la lo = record {
      f = f;
      T = T;
      n = n;
      linked = C.linked_a;
      within = omega (arith, C.within);
      ordered = C.ordered_a;
      slots = C.slots;
      ready = ready_after (turn_ready la lo) (does_none (λ j. ⊥) keys ids ids at out (λ j z. z)) (Along f r 0 n a b) (λ j z. absurd z) (λ j x. record { is = inl x }) (λ j z. absurd z);
    }

    module _ {ids₁ : ℕ} {at₁ out₁ : List ℕ} (A : Walks ha na r a b keys ids ids at out ids₁ at₁ out₁) where
      does_a : Does (Along f r 0 n a b) keys ids ids at out ids₁ at₁ out₁
      does_a = A.over f T n C.linked_a (omega (arith, C.within))

      apart : (j : ℕ) → Along f r 0 n a b j → Along g r 0 n p q j → ⊥
      apart j x y = omega (arith, x.low, y.high, C.apart)

      pub turn_b : length at ≡ length at₀ → length out ≡ length out₀ → Walkable hb nb r p q keys ids ids₁ at₁ out₁
      turn_b la lo = record {
        f = g;
        T = T;
        n = n;
        linked = C.linked_b;
        within = omega (arith, C.within);
        ordered = C.ordered_b;
        slots = omega (arith, C.apart, C.ordered_a, C.slots);
        ready = ready_after (turn_ready la lo) does_a (Along g r 0 n p q) (λ j x. record { is = inl x }) (λ j x. record { is = inr x }) apart;
      }

      pub turned_more : {ids' : ℕ} {at' out' : List ℕ} → Walks hb nb r p q keys ids ids₁ at₁ out₁ ids' at' out' → Turned f g low n a b p q keys (r + 1) ids' at' out'
      turned_more {ids'} {at'} {out'} B = record {
        told = s.told;
        few = s.few;
        top = s.top;
        within = bound;
        only = λ j h. ⊎_elim (λ x. omega (arith, w.only j x)) (λ x. omega (arith, turn_low j x)) (D.only j h);
        done_a = λ j h l x y. elim (dec_lt (f (j / 4)) r) [
          | yes m ↦ D.keep j (w.done_a j h m x y)
          | no m ↦ D.done j (record { is = inl (record { label = omega arith; from = omega arith; to = h; low = x; high = y }) })
        ];
        done_b = λ j h l x y. elim (dec_lt (g (j / 4)) r) [
          | yes m ↦ D.keep j (w.done_b j h m x y)
          | no m ↦ D.done j (record { is = inr (record { label = omega arith; from = omega arith; to = h; low = x; high = y }) })
        ];
      }
        where
          D : Does (Turn f g r n a b p q) keys ids ids at out ids' at' out'
          D = does_then does_a (B.over g T n C.linked_b (omega (arith, C.within))) (Turn f g r n a b p q) (λ j x. record { is = inl x }) (λ j x. record { is = inr x }) (λ j x. x.is) apart

          s : Numbered low keys (4 * n) r ids ids' at' out'
          s = D.over low (4 * n) r opens fits

          bound : (j : ℕ) → get_or out' j 0 ≤ ids'
          bound j = elim (dec_lt 0 (get_or out' j 0)) [
            | yes h ↦ elim (ℕ_discrete (low j) r) [
              | yes e ↦ omega (arith, (s.here j h e).1, s.top (get_or keys j 0))
              | no e ↦ omega (arith, s.old j h e, s.based)
            ]
            | no h ↦ omega arith
          ]

  pub turned_end : {ids : ℕ} {at out : List ℕ} → Turned f g low n a b p q keys many ids at out → Coursed f g low n a b p q keys many ids out
  turned_end {ids} {at} {out} w = record { told = w.told; few = w.within; bound = omega (arith, w.few, count_le (has out) (4 * n)); done_a = w.done_a; done_b = w.done_b }

-- the loop of `pass`
pub record Passing (ha na : List ℕ) (a b : ℕ) (hb nb : List ℕ) (p q : ℕ) (keys : List ℕ) (many : ℕ) (at₀ out₀ : List ℕ) (r ids : ℕ) (at out : List ℕ) : Type 0 where
  pub within : r ≤ many
  pub over : (f g low : ℕ → ℕ) (T n : ℕ) → Course f g low T n ha na a b hb nb p q keys many at₀ out₀ → Turned f g low n a b p q keys r ids at out
  pub at_long : length at ≡ length at₀
  pub out_long : length out ≡ length out₀

-- `label`: one turn
module _ {cells : List ℕ} {n : ℕ} {at₀ out₀ : List ℕ} (L : Labelling cells n at₀ out₀) where
  label_opens : Numbered (λ j. 0) cells n 0 0 0 at₀ out₀
  label_opens = record {
    told = record { lows = λ i j h. absurd (no_one i h); keys_are = λ i j h. absurd (no_one i h); same = λ i j h. absurd (no_one i h) };
    few = omega arith;
    based = omega arith;
    top = λ k. omega (arith, L.at_blank k);
    once = λ k l h. absurd (omega (arith, L.at_blank k));
    here = λ j h. absurd (no_one j h);
    old = λ j h. absurd (no_one j h);
  }
    where
      no_one : (j : ℕ) → Has out₀ j → ⊥
      no_one j h = omega (arith, L.out_blank j)

  pub label_ready : Ready (λ j. j < n) cells 0 0 at₀ out₀
  label_ready = record {
    low = λ j. 0;
    N = n;
    turn = 0;
    state = label_opens;
    fits = λ j h. (refl, h, L.out_blank j);
    small = L.small;
    keyed = L.keyed;
    room = L.room;
    known = L.known;
  }

  module _ {i ids : ℕ} {at out : List ℕ} (D : Does (λ j. j < i) cells 0 0 at₀ out₀ ids at out) where
    pub label_one : i < n → Numberable cells i ids at out
    label_one h = ready_one (ready_after label_ready D (λ j. j ≡ i) (λ j l. omega arith) (λ j l. omega arith) (λ j l m. omega arith)) i refl

    pub label_more : {ids' : ℕ} {at' out' : List ℕ} → Does (λ j. j ≡ i) cells 0 ids at out ids' at' out' → Does (λ j. j < i + 1) cells 0 0 at₀ out₀ ids' at' out'
    label_more E = does_then D E (λ j. j < i + 1) (λ j l. omega arith) (λ j l. omega arith) (λ j l. elim (dec_lt j i) [ yes h ↦ inl h | no h ↦ inr (omega arith) ]) (λ j l m. omega arith)

  pub label_end : {ids : ℕ} {at out : List ℕ} → Does (λ j. j < n) cells 0 0 at₀ out₀ ids at out → Labels cells n ids (length at₀) at out
  label_end {ids} {at} {out} D = record {
    room = omega (arith, L.room, D.out_long);
    bound = omega (arith, s.few, count_le (has out) n);
    few = λ j. elim (dec_lt 0 (get_or out j 0)) [ yes h ↦ omega (arith, (s.here j h refl).1, s.top (get_or cells j 0)) | no h ↦ omega arith ];
    has_one = D.done;
    tells = record {
      same = λ i j h l e. s.told.same i j (D.done i h) (D.done j l) refl e;
      told = λ i j h l e. s.told.keys_are i j (D.done i h) (D.done j l) e;
    };
    ranks = λ j h. (s.here j (D.done j h) refl).1;
    once = s.once;
    top = s.top;
    at_long = D.at_long;
  }
    where
      s : Numbered (λ j. 0) cells n 0 0 ids at out
      s = D.over (λ j. 0) n 0 label_opens (λ j h. (refl, h, L.out_blank j))

module _ {ha na : List ℕ} {a b : ℕ} {hb nb : List ℕ} {p q : ℕ} {keys : List ℕ} {many : ℕ} {at₀ out₀ : List ℕ} where
  pub passing_none : Passing ha na a b hb nb p q keys many at₀ out₀ 0 0 at₀ out₀
  passing_none = record { within = omega arith; over = λ f g low T n C. turned_none C; at_long = refl; out_long = refl }

  module _ {r ids : ℕ} {at out : List ℕ} (w : Passing ha na a b hb nb p q keys many at₀ out₀ r ids at out) where
    pub passing_a : Passable ha na a b hb nb p q keys many at₀ out₀ → r < many → Walkable ha na r a b keys ids ids at out
    passing_a P lt = turn_a P.course (w.over _ _ _ _ _ P.course) lt w.at_long w.out_long

    pub passing_b : Passable ha na a b hb nb p q keys many at₀ out₀ → r < many → {ids₁ : ℕ} {at₁ out₁ : List ℕ} → Walks ha na r a b keys ids ids at out ids₁ at₁ out₁
        → Walkable hb nb r p q keys ids ids₁ at₁ out₁
    passing_b P lt A = turn_b P.course (w.over _ _ _ _ _ P.course) lt A w.at_long w.out_long

    pub passing_more : r < many → {ids₁ : ℕ} {at₁ out₁ : List ℕ} → Walks ha na r a b keys ids ids at out ids₁ at₁ out₁
        → {ids' : ℕ} {at' out' : List ℕ} → Walks hb nb r p q keys ids ids₁ at₁ out₁ ids' at' out' → Passing ha na a b hb nb p q keys many at₀ out₀ (r + 1) ids' at' out'
    passing_more lt A B = record {
      within = omega arith;
      over = λ f g low T n C. turned_more C (w.over f g low T n C) lt A B;
      at_long = B.at_long ∙ A.at_long ∙ w.at_long;
      out_long = B.out_long ∙ A.out_long ∙ w.out_long;
    }

    pub passing_end : many ≤ r → Passed ha na a b hb nb p q keys many at₀ out₀ ids out
    passing_end h = let e : r ≡ many = omega (arith, w.within) in record { over = λ f g low T n C. turned_end C (rw e at (w.over f g low T n C)); out_long = w.out_long }
