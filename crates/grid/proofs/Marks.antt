-- Marks that spread over the cells of an edge.
use Prim.Native.Nat.{ℕ, zero-le, ◌%◌, ◌*◌, ◌+◌, ◌-◌, ◌/◌, ◌<◌, ◌≤◌}
use mathlib.Core.Path.{◌∙◌, ◌≡◌, ap, refl, sym}
use mathlib.Core.Logic.{◌≢◌, ◌⊎◌, inl, inr, ⊎_elim}
use mathlib.Core.Bool.{Bool, ◌&&◌, false, not, true}
use mathlib.Core.List.{List}
use native.Mathlib.Nat.{eq-or-lt_of_le, le_refl}
use native.Mathlib.Decide.{dec_lt, ℕ_discrete}
use native.Mathlib.Omega.{arith}
use lib.Dec.{eqb}
use lib.ListN.{get_or, length, length-set, set}
use lib.Seq.{get_or-set_other, get_or-set_same}
use borrow.Author.Tests.{eq-eqb, eqb-false, eqb-true, le-ltb, lt-ltb, ne_eqb, not-false, not-true}
use Rattle.counting.specs.Pick.{pick}
use Rattle.counting.specs.Search.{count, last, some}
use Rattle.counting.proofs.Bools.{and_left, and_right, bool_same, clash, holds_or}
use Rattle.counting.proofs.Involution.{count_less, less}
use Rattle.counting.proofs.Search.{count_blocks, count_ext, count_le, count_none, count_same, last_is, some_and, some_blocks, some_ext, some_found, some_is, some_none}
use Rattle.slots.specs.Slots.{contains, position, hi, lo, second_slot}
use Rattle.slots.specs.claims.Slots.{other_slot, rank_in}
use Rattle.slots.proofs.Slots.{Third, ends_sum, rank-of, third_of, two_slots}
use Rattle.counting.proofs.Tables.{top_le}
use Rattle.grid.specs.work.Work.{PassesAcross, Reached, Grown, OnSlot, Open, Paired, KeySlot, Splitting, Spread, Spreadable, Spreading, Spreads, marked_cells, missing, rank}
use Rattle.counting.specs.work.Tables.{same_key}
use Rattle.grid.proofs.Turns.{count_one_more}

-- how the other slot is found, from the sum of an edge's ends
pub other_low : (k s : ℕ) → k < 3 → 5 - k - s ≡ other_slot k s
other_low k s h = let e : lo k + hi k ≡ k + 1 = rw (lt-ltb k 3 h) at (ends_sum k (omega arith)) in omega arith

pub other_high : (k s : ℕ) → 3 ≤ k → k < 6 → 6 - k - s ≡ other_slot k s
other_high k s h l = let e : lo k + hi k ≡ k = rw (le-ltb k 3 h) at (ends_sum k l) in omega arith

pub other_fits : (k s : ℕ) → k < 6 → s < 4 → contains k s ≡ true → k + s ≤ 6
other_fits k s hk hs h =
    elim (dec_lt k 3) [
      | yes l ↦ omega arith
      | no l ↦ omega (arith, other_high k (other_slot k s) (omega arith) hk, (third_of k s hk hs h).back, (third_of k s hk hs h).lt)
    ]

pub grown_none : (keys near : List ℕ) (n key mark : ℕ) (marks : List ℕ) → Grown keys near n key mark marks marks
grown_none keys near n key mark marks = record { same = refl; keep = λ c e. e; only = λ c. inl refl; within = λ P cl h c e. h c e }

-- the loop of `spread` is to cross slot j
pub record Going (keys near : List ℕ) (n key mark b : ℕ) (marks₀ marks : List ℕ) (j r : ℕ) : Type 0 where
  pub slot : j < 4 * n
  pub side : KeySlot keys key j
  pub rank_is : r ≡ rank side.k (j % 4)
  pub here : get_or marks (j / 4) 0 ≡ mark
  pub opens : Open keys near n key mark marks j b
  pub grown : Grown keys near n key mark marks₀ marks

module _ {keys near : List ℕ} {n key mark b : ℕ} {marks₀ marks : List ℕ} {j r : ℕ} (J : Paired keys near n) (g : Going keys near n key mark b marks₀ marks j r) where
  closing : (get_or near j 0 ≡ 0) ⊎ (get_or marks ((get_or near j 0 - 1) / 4) 0 ≡ mark) → Open keys near n key mark marks b b
  closing done = record { at = λ i l s m p q. elim (ℕ_discrete i j) [ yes e ↦ rw e done | no e ↦ g.opens.at i l s m e p ] }

  module _ (p : ℕ) (e : p ≡ get_or near j 0) where
    pub going_end : p ≤ 0 → Open keys near n key mark marks b b
    going_end h = closing (inl (omega arith))

    module _ (pos : 0 < p) where
      there : 0 < get_or near j 0
      there = omega arith

      pub going_met : get_or marks ((p - 1) / 4) 0 ≡ mark → Open keys near n key mark marks b b
      going_met h = closing (inr (rw (← e) h))

      pub going_lt : p ≤ 4 * n
      going_lt = omega (arith, (J.back j g.slot there).0)

      -- the slot across, with the edge's rank there
      across : (t : KeySlot keys key (p - 1)) × (r ≡ rank t.k ((p - 1) % 4))
      across = let w = J.side key j g.slot there g.side in rw e (w.0, g.rank_is ∙ sym w.1)

      module _ (new : get_or marks ((p - 1) / 4) 0 ≢ mark) (room : n ≤ length marks) where
        k : ℕ
        k = across.0.k

        hk : k < 6
        unfolding k
        hk = across.0.lt

        at : get_or keys (6 * ((p - 1) / 4) + k) 0 ≡ key
        unfolding k
        at = across.0.is

        cell : (p - 1) / 4 < n
        cell = omega (arith, going_lt)

        -- any slot of the cell across has its edge at k
        holds : (i : ℕ) → i / 4 ≡ (p - 1) / 4 → KeySlot keys key i → contains k (i % 4) ≡ true
        holds i q s =
            let f : get_or keys (6 * ((p - 1) / 4) + s.k) 0 ≡ key = rw (← q) s.is in
            rw (J.one ((p - 1) / 4) k s.k cell hk s.lt (at ∙ sym f)) s.holds

        h₁ : contains k ((p - 1) % 4) ≡ true
        unfolding k
        h₁ = across.0.holds

        o : ℕ
        o = other_slot k ((p - 1) % 4)

        o_lt : o < 4
        unfolding o
        o_lt = (third_of k ((p - 1) % 4) hk (omega arith) h₁).lt

        o_is : position ((p - 1) % 4) r ≡ o
        unfolding o k
        o_is = ap (position ((p - 1) % 4)) across.1 ∙ (let T = third_of k ((p - 1) % 4) hk (omega arith) h₁ in (rank-of ((p - 1) % 4) o (omega arith) T.lt T.not_omitted).1)

        next_div : (4 * ((p - 1) / 4) + o) / 4 ≡ (p - 1) / 4
        next_div = omega (arith, o_lt)

        next_mod : (4 * ((p - 1) / 4) + o) % 4 ≡ o
        next_mod = omega (arith, o_lt)

        now : get_or (set marks ((p - 1) / 4) mark) ((p - 1) / 4) 0 ≡ mark
        now = get_or-set_same marks ((p - 1) / 4) mark 0 (omega (arith, cell))

        kept : (c : ℕ) → get_or marks c 0 ≡ mark → get_or (set marks ((p - 1) / 4) mark) c 0 ≡ mark
        kept c m = get_or-set_other marks ((p - 1) / 4) c mark 0 (λ q. new (rw (← q) m)) ∙ m

        was : (c : ℕ) → c ≢ (p - 1) / 4 → get_or (set marks ((p - 1) / 4) mark) c 0 ≡ mark → get_or marks c 0 ≡ mark
        was c q m = sym (get_or-set_other marks ((p - 1) / 4) c mark 0 q) ∙ m

        opened : (i : ℕ) → i < 4 * n → KeySlot keys key i → get_or (set marks ((p - 1) / 4) mark) (i / 4) 0 ≡ mark → i ≢ 4 * ((p - 1) / 4) + o → i ≢ b
            → (get_or near i 0 ≡ 0) ⊎ (get_or (set marks ((p - 1) / 4) mark) ((get_or near i 0 - 1) / 4) 0 ≡ mark)
        unfolding o
        opened i l s m q r = elim (ℕ_discrete (i / 4) ((p - 1) / 4)) [
          | yes d ↦ ⊎_elim
              (λ (f : i % 4 ≡ (p - 1) % 4).
              let same : i ≡ p - 1 = omega arith in
              let bk : get_or near i 0 ≡ j + 1 = rw (same, e) (J.back j g.slot there).1 in
              let z : (j + 1 - 1) ≡ j = omega arith in
              inr (rw (bk, z) (kept (j / 4) g.here)))
              (λ (f : i % 4 ≡ other_slot k ((p - 1) % 4)). absurd (q (omega arith)))
              ((third_of k ((p - 1) % 4) hk (omega arith) h₁).only (i % 4) (omega arith) (holds i d s))
          | no d ↦ elim (ℕ_discrete i j) [
            | yes f ↦ inr (rw (f, ← e) now)
            | no f ↦ ⊎_elim (λ (z : get_or near i 0 ≡ 0). inl z) (λ (z : get_or marks ((get_or near i 0 - 1) / 4) 0 ≡ mark). inr (kept _ z))
                (g.opens.at i l s (was (i / 4) d m) f r)
          ]
        ]

        inside : (P : ℕ → Bool) → PassesAcross keys near n key P → ((c : ℕ) → get_or marks₀ c 0 ≡ mark → P c ≡ true) → (c : ℕ) → get_or (set marks ((p - 1) / 4) mark) c 0 ≡ mark → P c ≡ true
        inside P cl h c m = elim (ℕ_discrete c ((p - 1) / 4)) [
          | yes f ↦ rw (f, e) (cl j g.slot g.side there (g.grown.within P cl h (j / 4) g.here))
          | no f ↦ g.grown.within P cl h c (was c f m)
        ]

        on-edge : Going keys near n key mark b marks₀ (set marks ((p - 1) / 4) mark) (4 * ((p - 1) / 4) + o) (rank_in o ((p - 1) % 4))
        unfolding o
        on-edge =
            record {
              rank_is = rw (next_mod, (third_of k ((p - 1) % 4) hk (omega arith) h₁).back);
              slot = omega (arith, o_lt, cell);
              side = record { k = k; lt = hk; is = rw next_div at; holds = rw next_mod (third_of k ((p - 1) % 4) hk (omega arith) h₁).other };
              here = rw next_div now;
              opens = record { at = opened };
              grown = record {
                same = length-set marks ((p - 1) / 4) mark ∙ g.grown.same;
                keep = λ c m. kept c (g.grown.keep c m);
                only = only;
                within = inside;
              };
            }
          where
            only : (c : ℕ) → (get_or (set marks ((p - 1) / 4) mark) c 0 ≡ get_or marks₀ c 0) ⊎ (get_or (set marks ((p - 1) / 4) mark) c 0 ≡ mark)
            only c = elim (ℕ_discrete c ((p - 1) / 4)) [
              | yes f ↦ inr (rw f now)
              | no f ↦
                  let s = get_or-set_other marks ((p - 1) / 4) c mark 0 f in
                  ⊎_elim (λ (z : get_or marks c 0 ≡ get_or marks₀ c 0). inl (s ∙ z)) (λ (z : get_or marks c 0 ≡ mark). inr (s ∙ z)) (g.grown.only c)
            ]

        -- the loop goes on across the other slot
        pub going_more : (s q : ℕ) → s ≡ position ((p - 1) % 4) r → q ≡ rank_in s ((p - 1) % 4)
            → Going keys near n key mark b marks₀ (set marks ((p - 1) / 4) mark) (4 * ((p - 1) / 4) + s) q
        going_more s q es eq = rw (eq, es, o_is) on-edge

-- one more cell is marked
pub marked_more : (marks : List ℕ) (mark n c : ℕ) → c < n → c < length marks → get_or marks c 0 ≢ mark → marked_cells (set marks c mark) mark n ≡ marked_cells marks mark n + 1
unfolding marked_cells
marked_more marks mark n c h room ne =
    count_one_more (λ d. eqb (get_or marks d 0) mark) (λ d. eqb (get_or (set marks c mark) d 0) mark) c (ne_eqb (get_or marks c 0) mark ne)
    (eq-eqb _ _ (get_or-set_same marks c mark 0 room)) (λ d q. rw (get_or-set_other marks c d mark 0 q)) n h

-- no more than all
pub marked_le : (marks : List ℕ) (mark n : ℕ) → marked_cells marks mark n ≤ n
unfolding marked_cells
marked_le marks mark n = count_le (λ d. eqb (get_or marks d 0) mark) n

-- the loop of `spread`: p is what near has at the slot to be crossed
pub record Walking (near : List ℕ) (n mark start q : ℕ) (marks₀ : List ℕ) (met : ℕ) (marks : List ℕ) (r p : ℕ) : Type 0 where
  pub j : ℕ
  pub slot : j < 4 * n
  pub p_is : p ≡ get_or near j 0
  pub rank_lt : r < 3
  pub same : length marks ≡ length marks₀
  pub counted : marked_cells marks₀ mark n + met ≡ marked_cells marks mark n
  pub over : (keys : List ℕ) (key b : ℕ) → Spreading keys near n key mark start q b marks₀ → Going keys near n key mark b marks₀ marks j r

module _ {near : List ℕ} {n mark start q : ℕ} {marks₀ : List ℕ} (P : Spreadable near n start q marks₀) where
  pub walking_start : (p : ℕ) → p ≡ get_or near start 0 → Walking near n mark start q marks₀ 0 marks₀ q p
  walking_start p e =
      record {
        j = start;
        slot = P.slot;
        p_is = e;
        rank_lt = P.rank_lt;
        same = refl;
        counted = omega arith;
        over = λ keys key b w.
            record { slot = P.slot; side = w.side; rank_is = w.rank_is; here = w.here; opens = w.opens; grown = grown_none keys near n key mark marks₀ };
      }

  module _ {met : ℕ} {marks : List ℕ} {r p : ℕ} (w : Walking near n mark start q marks₀ met marks r p) where
    pub walking_lt : p ≤ 4 * n
    walking_lt = omega (arith, w.p_is, P.within w.j w.slot)

    pub walking_end : p ≤ 0 → Spreads near n mark start q marks₀ met marks
    walking_end h =
        record {
          same = w.same;
          counted = w.counted;
          over = λ keys key b s. (let g = w.over keys key b s in record { grown = g.grown; opens = going_end s.paired g p w.p_is h });
        }

    module _ (pos : 0 < p) where
      pub walking_met : get_or marks ((p - 1) / 4) 0 ≡ mark → Spreads near n mark start q marks₀ met marks
      walking_met h =
          record {
            same = w.same;
            counted = w.counted;
            over = λ keys key b s. (let g = w.over keys key b s in record { grown = g.grown; opens = going_met s.paired g p w.p_is pos h });
          }

      pub walking_more : get_or marks ((p - 1) / 4) 0 ≢ mark → (s t x : ℕ) → s < 4 → s ≡ position ((p - 1) % 4) r → t < 3 → t ≡ rank_in s ((p - 1) % 4)
          → x ≡ get_or near (4 * ((p - 1) / 4) + s) 0 → Walking near n mark start q marks₀ (met + 1) (set marks ((p - 1) / 4) mark) t x
      walking_more new s t x hs es ht et ex =
          record {
            j = 4 * ((p - 1) / 4) + s;
            slot = omega (arith, walking_lt);
            p_is = ex;
            rank_lt = ht;
            same = length-set marks ((p - 1) / 4) mark ∙ w.same;
            counted = omega (arith, w.counted, marked_more marks mark n ((p - 1) / 4) (omega (arith, walking_lt)) (omega (arith, walking_lt, w.same, P.room)) new);
            over = λ keys key b v. going_more v.paired (w.over keys key b v) p w.p_is pos new (omega (arith, w.same, P.room)) s t es et;
          }

-- how many of n cells are not marked
unfoldable pub unmarked_cells : List ℕ → ℕ → ℕ → ℕ
unmarked_cells marks mark n = count (λ c. not (eqb (get_or marks c 0) mark)) n

pub unmarked_less : (marks : List ℕ) (mark n c : ℕ) → c < n → c < length marks → (get_or marks c 0 ≡ mark → ⊥) → unmarked_cells (set marks c mark) mark n < unmarked_cells marks mark n
unfolding unmarked_cells less
unmarked_less marks mark n c h room ne =
    omega (arith, count_less free c n h (rw (ne_eqb (get_or marks c 0) mark ne)), count_ext (λ x. not (eqb (get_or (set marks c mark) x 0) mark)) (less free c) n (λ i l. at i (eqb i c) refl))
  where
    free : ℕ → Bool
    free x = not (eqb (get_or marks x 0) mark)

    at : (i : ℕ) (b : Bool) → eqb i c ≡ b → not (eqb (get_or (set marks c mark) i 0) mark) ≡ pick (eqb i c) false (free i)
    at i true q = let f : i ≡ c = eqb-true i c q in rw (q, f, get_or-set_same marks c mark 0 room, eq-eqb mark mark refl)
    at i false q = rw (q, get_or-set_other marks c i mark 0 (eqb-false i c q))

-- the lower slot contains its edge
pub lower_on : (k s : ℕ) → k < 6 → s ≡ second_slot k → OnSlot k s
lower_on k s l e = let t = two_slots k l in record { edge_lt = l; slot_lt = rw e t.second_lt; holds = rw e t.second_has }

pub top_key : (keys : List ℕ) (key m top : ℕ) → top ≡ last (same_key keys key) m → 0 < top → get_or keys (6 * ((top - 1) / 6) + (top - 1) % 6) 0 ≡ key
unfolding same_key
top_key keys key m top e pos =
    let f : 6 * ((top - 1) / 6) + (top - 1) % 6 ≡ top - 1 = omega arith in
    let t : eqb (get_or keys (top - 1) 0) key ≡ true = rw e (last_is (same_key keys key) m (rw (← e) pos)) in
    rw f (eqb-true (get_or keys (top - 1) 0) key t)

pub open_free : {keys near : List ℕ} {n key mark : ℕ} {marks : List ℕ} {a : ℕ} → (b : ℕ) → Open keys near n key mark marks a a → Open keys near n key mark marks a b
open_free b o = record { at = λ j l s m p q. o.at j l s m p p }

pub grown_at : {keys near : List ℕ} {n key mark : ℕ} {marks₀ marks : List ℕ} → Grown keys near n key mark marks₀ marks → (c x : ℕ) → x / 4 ≡ c → get_or marks₀ c 0 ≡ mark → get_or marks (x / 4) 0 ≡ mark
grown_at g c x e m = rw e (g.keep c m)

-- the steps of `split_at`
module _ {keys near : List ℕ} {n key top degree : ℕ} {marks : List ℕ} (S : Splitting keys near n key top degree marks) where
  pub top_within : top ≤ 6 * n
  top_within = top_le keys key (6 * n) top S.top_is

  at_top : get_or keys (6 * ((top - 1) / 6) + (top - 1) % 6) 0 ≡ key
  at_top = top_key keys key (6 * n) top S.top_is S.found

  cell_lt : (top - 1) / 6 < n
  cell_lt = omega (arith, top_within, S.found)

  edge_lt : (top - 1) % 6 < 6
  edge_lt = omega arith

  -- the first cell, marked alone
  marked : get_or (set marks ((top - 1) / 6) key) ((top - 1) / 6) 0 ≡ key
  marked = get_or-set_same marks ((top - 1) / 6) key 0 (omega (arith, cell_lt, S.room))

  alone : (d : ℕ) → get_or (set marks ((top - 1) / 6) key) d 0 ≡ key → d ≡ (top - 1) / 6
  alone d m = elim (ℕ_discrete d ((top - 1) / 6)) [ yes e ↦ e | no e ↦ absurd (S.fresh d (sym (get_or-set_other marks ((top - 1) / 6) d key 0 e) ∙ m)) ]

  slot_side : (s : ℕ) → s < 4 → contains ((top - 1) % 6) s ≡ true → KeySlot keys key (4 * ((top - 1) / 6) + s)
  slot_side s l h =
      let a : (4 * ((top - 1) / 6) + s) / 4 ≡ ((top - 1) / 6) = omega arith in
      let b : (4 * ((top - 1) / 6) + s) % 4 ≡ s = omega arith in
      record { k = (top - 1) % 6; lt = edge_lt; is = rw a at_top; holds = rw b h }

  start_open : (s : ℕ) → OnSlot ((top - 1) % 6) s → Open keys near n key key (set marks ((top - 1) / 6) key) (4 * ((top - 1) / 6) + s) (4 * ((top - 1) / 6) + other_slot ((top - 1) % 6) s)
  start_open s on = record { at = λ j l t m p q. absurd (go j t (alone (j / 4) m) p q) }
    where
      go : (j : ℕ) → KeySlot keys key j → j / 4 ≡ ((top - 1) / 6) → j ≢ 4 * ((top - 1) / 6) + s → j ≢ 4 * ((top - 1) / 6) + other_slot ((top - 1) % 6) s → ⊥
      go j t e p q =
          let f : get_or keys (6 * ((top - 1) / 6) + t.k) 0 ≡ key = rw (← e) t.is in
          let h : contains ((top - 1) % 6) (j % 4) ≡ true = rw (S.paired.one ((top - 1) / 6) ((top - 1) % 6) t.k cell_lt edge_lt t.lt (at_top ∙ sym f)) t.holds in
          ⊎_elim (λ (u : j % 4 ≡ s). p (omega arith)) (λ (u : j % 4 ≡ other_slot ((top - 1) % 6) s). q (omega arith))
          ((third_of ((top - 1) % 6) s edge_lt on.slot_lt on.holds).only (j % 4) (omega arith) h)

  first_mark : (marks₂ : List ℕ) (d : ℕ) → get_or marks₂ d 0 ≡ get_or (set marks ((top - 1) / 6) key) d 0 → (get_or marks₂ d 0 ≡ get_or marks d 0) ⊎ (get_or marks₂ d 0 ≡ key)
  first_mark marks₂ d e = elim (ℕ_discrete d ((top - 1) / 6)) [ yes f ↦ inr (e ∙ rw f marked) | no f ↦ inl (e ∙ get_or-set_other marks ((top - 1) / 6) d key 0 f) ]

  -- after the two spreads
  both_spread : (b : ℕ) → 4 * n ≤ b → (marks₁ marks₂ : List ℕ) → Grown keys near n key key (set marks ((top - 1) / 6) key) marks₁ → Grown keys near n key key marks₁ marks₂
      → Open keys near n key key marks₂ b b → Reached keys near n key key ((top - 1) / 6) marks marks₂
  both_spread b hb marks₁ marks₂ g₁ g₂ o =
      record {
        same = g₂.same ∙ g₁.same ∙ length-set marks ((top - 1) / 6) key;
        has = g₂.keep ((top - 1) / 6) (g₁.keep ((top - 1) / 6) marked);
        only = λ d. ⊎_elim (λ (e : get_or marks₂ d 0 ≡ get_or marks₁ d 0). ⊎_elim (λ (f : get_or marks₁ d 0 ≡ get_or (set marks ((top - 1) / 6) key) d 0). first_mark marks₂ d (e ∙ f))
            (λ (f : get_or marks₁ d 0 ≡ key). inr (e ∙ f)) (g₁.only d)) (λ (e : get_or marks₂ d 0 ≡ key). inr e) (g₂.only d);
        closed = λ j l s p m. ⊎_elim (λ (z : get_or near j 0 ≡ 0). absurd (omega arith)) (λ z. z) (o.at j l s m (λ q. omega arith) (λ q. omega arith));
        within = λ P cl h d m. g₂.within P cl (g₁.within P cl (λ x y. rw (alone x y) h)) d m;
      }

  -- near leads to slots of the cells
  near_within : (j : ℕ) → j < 4 * n → get_or near j 0 ≤ 4 * n
  near_within j l =
      ⊎_elim (λ (q : 0 ≡ get_or near j 0). omega arith) (λ (q : 0 < get_or near j 0). (S.paired.back j l q).0) (eq-or-lt_of_le zero-le)

  pub may_spread : (t r : ℕ) → t < 4 → r < 3 → (marks₁ : List ℕ) → length marks₁ ≡ length marks → Spreadable near n (4 * ((top - 1) / 6) + t) r marks₁
  may_spread t r l lr marks₁ e =
      record { near_room = S.paired.room; few = S.paired.few; within = near_within; room = omega (arith, e, S.room); slot = omega (arith, cell_lt); rank_lt = lr }

  pub first_same : {x y a : ℕ} {marks₁ : List ℕ} → Spreads near n key x y (set marks ((top - 1) / 6) key) a marks₁ → length marks₁ ≡ length marks
  first_same g = g.same ∙ length-set marks ((top - 1) / 6) key

  pub both_same : {x y z w a b : ℕ} {marks₁ marks₂ : List ℕ} → Spreads near n key x y (set marks ((top - 1) / 6) key) a marks₁ → Spreads near n key z w marks₁ b marks₂
      → length marks₂ ≡ length marks
  both_same g h = h.same ∙ first_same g

  -- from a slot that contains the edge
  module _ {s : ℕ} (on : OnSlot ((top - 1) % 6) s) where
    third : Third ((top - 1) % 6) s
    third = third_of ((top - 1) % 6) s edge_lt on.slot_lt on.holds

    pub other_apart : (o : ℕ) → o ≡ other_slot ((top - 1) % 6) s → o ≢ s
    other_apart o e = rw e third.not_omitted

    pub may_spread_first : (r : ℕ) → r < 3 → Spreadable near n (4 * ((top - 1) / 6) + s) r (set marks ((top - 1) / 6) key)
    may_spread_first r l = may_spread s r on.slot_lt l (set marks ((top - 1) / 6) key) (length-set marks ((top - 1) / 6) key)

    pub spread_first : (o r : ℕ) → o ≡ other_slot ((top - 1) % 6) s → r ≡ rank_in s o
        → Spreading keys near n key key (4 * ((top - 1) / 6) + s) r (4 * ((top - 1) / 6) + o) (set marks ((top - 1) / 6) key)
    unfolding lo slot_side
    spread_first o r e f =
        let d : (4 * ((top - 1) / 6) + s) / 4 ≡ (top - 1) / 6 = omega (arith, on.slot_lt) in
        let m : (4 * ((top - 1) / 6) + s) % 4 ≡ s = omega (arith, on.slot_lt) in
        record {
          paired = S.paired;
          side = slot_side s on.slot_lt on.holds;
          rank_is = rw (m, ← e) f;
          here = rw d marked;
          opens = rw e (start_open s on);
        }

    pub spread_second : (o r b : ℕ) → o ≡ other_slot ((top - 1) % 6) s → o < 4 → r ≡ rank_in o s → (marks₁ : List ℕ)
        → Spread keys near n key key (4 * ((top - 1) / 6) + o) (set marks ((top - 1) / 6) key) marks₁ → Spreading keys near n key key (4 * ((top - 1) / 6) + o) r b marks₁
    unfolding lo slot_side
    spread_second o r b e l f marks₁ g =
        let m : (4 * ((top - 1) / 6) + o) % 4 ≡ o = omega arith in
        let t : other_slot ((top - 1) % 6) o ≡ s = rw e third.back in
        record {
          paired = S.paired;
          side = slot_side o l (rw e third.other);
          rank_is = rw (m, t) f;
          here = grown_at g.grown ((top - 1) / 6) (4 * ((top - 1) / 6) + o) (omega arith) marked;
          opens = open_free b g.opens;
        }

    -- after both: no slot has the number 4 n
    pub spread_both : (o r q : ℕ) → o ≡ other_slot ((top - 1) % 6) s → o < 4 → r ≡ rank_in s o → q ≡ rank_in o s
        → (x y : ℕ) (marks₁ marks₂ : List ℕ) → Spreads near n key (4 * ((top - 1) / 6) + s) r (set marks ((top - 1) / 6) key) x marks₁
        → Spreads near n key (4 * ((top - 1) / 6) + o) q marks₁ y marks₂ → Reached keys near n key key ((top - 1) / 6) marks marks₂
    spread_both o r q e l f h x y marks₁ marks₂ g₁ g₂ =
        let a = g₁.over keys key (4 * ((top - 1) / 6) + o) (spread_first o r e f) in
        let b = g₂.over keys key (4 * n) (spread_second o q (4 * n) e l h marks₁ a) in
        both_spread (4 * n) (le_refl (4 * n)) marks₁ marks₂ a.grown b.grown b.opens

  -- the cells of the edge, and those that are marked
  has : ℕ → Bool
  has c = some (λ i. same_key keys key (6 * c + i)) 6

  is-marked : List ℕ → ℕ → Bool
  is-marked l c = eqb (get_or l c 0) key

  degree_cells : degree ≡ count has n
  unfolding has same_key
  degree_cells = S.degree_is ∙ count_blocks (same_key keys key) 6 n
      (λ d h i j l b p q. (let z = S.paired.one d i j h (omega arith) b (eqb-true _ key p ∙ sym (eqb-true _ key q)) in omega arith))

  -- none was marked before the first, then all that a spread met, then all that both met
  one_marked : marked_cells (set marks ((top - 1) / 6) key) key n ≡ 1
  unfolding marked_cells
  one_marked =
      let none : marked_cells marks key n ≡ 0 = count_none (λ d. eqb (get_or marks d 0) key) n (λ i l. ne_eqb (get_or marks i 0) key (S.fresh i)) in
      omega (arith, marked_more marks key n ((top - 1) / 6) cell_lt (omega (arith, cell_lt, S.room)) (S.fresh ((top - 1) / 6)))

  met_first : {x y a : ℕ} {marks₁ : List ℕ} → Spreads near n key x y (set marks ((top - 1) / 6) key) a marks₁ → 1 + a ≡ marked_cells marks₁ key n
  met_first g = omega (arith, g.counted, one_marked)

  pub met_all : {x y z w a b : ℕ} {marks₁ marks₂ : List ℕ} → Spreads near n key x y (set marks ((top - 1) / 6) key) a marks₁ → Spreads near n key z w marks₁ b marks₂
      → 1 + a + b ≡ marked_cells marks₂ key n
  met_all g h = omega (arith, met_first g, h.counted)

  pub met_le : {x y z w a b : ℕ} {marks₁ marks₂ : List ℕ} → Spreads near n key x y (set marks ((top - 1) / 6) key) a marks₁ → Spreads near n key z w marks₁ b marks₂ → 1 + a + b ≤ n
  met_le {marks₂ = marks₂} g h = omega (arith, met_all g h, marked_le marks₂ key n)

  pub met_first_le : {x y a : ℕ} {marks₁ : List ℕ} → Spreads near n key x y (set marks ((top - 1) / 6) key) a marks₁ → 1 + a ≤ n
  met_first_le {marks₁ = marks₁} g = omega (arith, met_first g, marked_le marks₁ key n)

  -- marks lead to cells of the edge alone
  abbrev Leads : List ℕ → Type 0
  Leads marks₂ = (P : ℕ → Bool) → PassesAcross keys near n key P → P ((top - 1) / 6) ≡ true → (d : ℕ) → get_or marks₂ d 0 ≡ key → P d ≡ true

  marked_has : (marks₂ : List ℕ) → Leads marks₂ → (c : ℕ) → is-marked marks₂ c ≡ true → has c ≡ true
  unfolding has same_key is-marked
  marked_has marks₂ R c p = R has across
      (some_found (λ i. same_key keys key (6 * ((top - 1) / 6) + i)) 6 ((top - 1) % 6) edge_lt (eq-eqb _ key at_top)) c (eqb-true (get_or marks₂ c 0) key p)
    where
      across : PassesAcross keys near n key has
      across j l s p h = (let t = (S.paired.side key j l p s).0 in some_found (λ i. same_key keys key (6 * ((get_or near j 0 - 1) / 4) + i)) 6 t.k t.lt (eq-eqb _ key t.is))

  -- what `split_at` answers
  pub split_counted : {marks₂ : List ℕ} (met : ℕ) → met ≡ marked_cells marks₂ key n → Reached keys near n key key ((top - 1) / 6) marks marks₂ → (r : Bool) → r ≡ not (eqb met degree)
      → r ≡ some (missing keys key marks₂ key) (6 * n)
  unfolding missing marked_cells has is-marked
  split_counted {marks₂} met em R r er =
      er ∙ ap (λ (x : ℕ). not (eqb x degree)) em ∙ ap (λ (x : ℕ). not (eqb (count (is-marked marks₂) n) x)) degree_cells
      ∙ bool_same (not (eqb (count (is-marked marks₂) n) (count has n))) (some left n) lost whole ∙ blocks
    where
      left : ℕ → Bool
      left c = has c && not (is-marked marks₂ c)

      lost : not (eqb (count (is-marked marks₂) n) (count has n)) ≡ true → some left n ≡ true
      lost q = ⊎_elim (λ u. u)
          (λ (u : some left n ≡ false).
          let all = count_ext (is-marked marks₂) has n (λ c l. bool_same (is-marked marks₂ c) (has c) (marked_has marks₂ R.within c)
          (λ h. not-false (is-marked marks₂ c) (sym (ap (λ (x : Bool). x && not (is-marked marks₂ c)) h) ∙ some_none left n u c l))) in
          clash (eq-eqb _ _ all) (not-true _ q)) (holds_or (some left n))

      whole : some left n ≡ true → not (eqb (count (is-marked marks₂) n) (count has n)) ≡ true
      whole q =
          let w = some_is left n q in
          let h = and_left (has w.0) (not (is-marked marks₂ w.0)) w.2 in
          let k = not-true _ (and_right (has w.0) (not (is-marked marks₂ w.0)) w.2) in
          ap not (ne_eqb _ _ (λ e. clash (count_same (is-marked marks₂) has (marked_has marks₂ R.within) n e w.0 w.1 ∙ h) k))

      blocks : some left n ≡ some (λ j. same_key keys key j && not (eqb (get_or marks₂ (j / 6) 0) key)) (6 * n)
      blocks =
          some_ext left (λ c. some (λ i. same_key keys key (6 * c + i) && not (eqb (get_or marks₂ ((6 * c + i) / 6) 0) key)) 6) n
          (λ c h. sym (some_and (λ i. same_key keys key (6 * c + i)) (not (eqb (get_or marks₂ c 0) key)) 6)
          ∙ some_ext (λ i. same_key keys key (6 * c + i) && not (eqb (get_or marks₂ c 0) key)) (λ i. same_key keys key (6 * c + i) && not (eqb (get_or marks₂ ((6 * c + i) / 6) 0) key)) 6
          (λ i l. (let q : (6 * c + i) / 6 ≡ c = omega arith in rw q)))
          ∙ sym (some_blocks (λ j. same_key keys key j && not (eqb (get_or marks₂ (j / 6) 0) key)) 6 n)

  -- where as many cells are marked as have the edge, none is left
  all_met : {marks₁ : List ℕ} → Grown keys near n key key (set marks ((top - 1) / 6) key) marks₁ → (met : ℕ) → met ≡ marked_cells marks₁ key n → met ≡ degree
      → Reached keys near n key key ((top - 1) / 6) marks marks₁ × (false ≡ some (missing keys key marks₁ key) (6 * n))
  unfolding marked_cells is-marked has same_key
  all_met {marks₁} g met em ed = (R, split_counted met em R false (sym (ap not (eq-eqb met degree ed))))
    where
      leads : Leads marks₁
      leads P cl h d m = g.within P cl (λ x y. rw (alone x y) h) d m

      counts : count (is-marked marks₁) n ≡ count has n
      counts = sym em ∙ ed ∙ degree_cells

      across : (j : ℕ) → j < 4 * n → KeySlot keys key j → 0 < get_or near j 0 → get_or marks₁ ((get_or near j 0 - 1) / 4) 0 ≡ key
      across j l s p =
          let t = (S.paired.side key j l p s).0 in
          let d = (get_or near j 0 - 1) / 4 in
          eqb-true (get_or marks₁ d 0) key
          (count_same (is-marked marks₁) has (marked_has marks₁ leads) n counts d (omega (arith, (S.paired.back j l p).0))
          ∙ some_found (λ i. same_key keys key (6 * d + i)) 6 t.k t.lt (eq-eqb _ key t.is))

      R : Reached keys near n key key ((top - 1) / 6) marks marks₁
      R = record {
        same = g.same ∙ length-set marks ((top - 1) / 6) key;
        has = g.keep ((top - 1) / 6) marked;
        only = λ d. ⊎_elim (λ (e : get_or marks₁ d 0 ≡ get_or (set marks ((top - 1) / 6) key) d 0). first_mark marks₁ d e) (λ (e : get_or marks₁ d 0 ≡ key). inr e) (g.only d);
        closed = λ j l s p m. across j l s p;
        within = leads;
      }

  -- after the first spread, and where there is one cell alone
  pub spread_whole : {s : ℕ} → OnSlot ((top - 1) % 6) s → (o r : ℕ) → o ≡ other_slot ((top - 1) % 6) s → r ≡ rank_in s o → (x : ℕ) (marks₁ : List ℕ)
      → Spreads near n key (4 * ((top - 1) / 6) + s) r (set marks ((top - 1) / 6) key) x marks₁ → 1 + x ≡ degree
      → Reached keys near n key key ((top - 1) / 6) marks marks₁ × (false ≡ some (missing keys key marks₁ key) (6 * n))
  spread_whole on o r e f x marks₁ g ed = all_met (g.over keys key (4 * ((top - 1) / 6) + o) (spread_first on o r e f)).grown (1 + x) (met_first g) ed

  pub single_split : degree ≡ 1
      → Reached keys near n key key ((top - 1) / 6) marks (set marks ((top - 1) / 6) key) × (false ≡ some (missing keys key (set marks ((top - 1) / 6) key) key) (6 * n))
  single_split e = all_met (grown_none keys near n key key (set marks ((top - 1) / 6) key)) 1 (sym one_marked) (sym e)
