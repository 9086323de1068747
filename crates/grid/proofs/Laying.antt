-- Runs of edges with one lower end: the table by the higher end, what a walk along the chains puts, and the edges of the cells as far as the list is read.
use Prim.Native.Nat.{ℕ, zero, suc, ◌+◌, ◌*◌, ◌-◌, ◌<◌, ◌≤◌, min}
use mathlib.Core.Path.{◌∙◌, ◌≡◌, ap, refl, sym}
use mathlib.Core.Logic.{◌≢◌, ◌⊎◌, inl, inr, ⊎_elim}
use mathlib.Core.Bool.{Bool, ◌||◌, false, not, true}
use mathlib.Core.List.{List}
use native.Mathlib.Decide.{dec_lt, ℕ_discrete}
use native.Mathlib.Omega.{arith}
use lib.Dec.{eqb, ltb}
use lib.ListN.{get_or, length, length-set, set, get_or-eq_default}
use lib.Seq.{ext_get_or, get_or-set_other, get_or-set_same}
use borrow.Author.Tests.{eq-eqb, eqb-true, lt-ltb, ne_eqb}
use Rattle.counting.specs.Search.{count, every, last}
use Rattle.counting.specs.work.Tables.{same_key}
use Rattle.counting.proofs.Bools.{and_false_right, and_left, and_right, imply}
use Rattle.counting.proofs.Search.{count_none, count_le, every_is, last_hit, last_is, last_le, last_miss, last_none}
use Rattle.slots.specs.Slots.{hi, lo}
use Rattle.slots.proofs.Slots.{two_slots}
use Rattle.grid.specs.Grid.{cell_count, high, joins, low, node}
use Rattle.slots.specs.Limits.{highest_node}
use Rattle.grid.specs.work.Runs.{Blanked, Clearable, EndIn, Fillable, FromNode, InCell, InChain, Layable, Lays, NodeChains, OneLow, RunFilled, SidesPlaceable, SidesPlaced, SidesPuttable, SidesWalkable, SidesWalked, Tabled, Tallied, Talliable, Turnable, place_below}
use Rattle.grid.specs.work.Walks.{Linked, labelled}
use Rattle.grid.proofs.Places.{entry_above, entry_is, entry_le}

pub set_beyond : (l : List ℕ) (i x : ℕ) → length l ≤ i → set l i x ≡ l
set_beyond l i x h = ext_get_or 0 (set l i x) l (length-set l i x) (λ j k. get_or-set_other l i j x 0 (λ q. omega (arith, length-set l i x)))

-- only entries within the list are not 0
pub entry_within : (l : List ℕ) (i : ℕ) → 0 < get_or l i 0 → i < length l
entry_within l i h = elim (dec_lt i (length l)) [ yes k ↦ k | no k ↦ absurd (omega (arith, get_or-eq_default l 0 {n = i} (omega arith))) ]

-- the last that passes is not among those that do not
pub last_skip : (t : ℕ → Bool) (a f : ℕ) → a ≤ f → ((d : ℕ) → a ≤ d → d < f → t d ≡ false) → last t f ≡ last t a
unfolding last
last_skip t a zero h z = let e : a ≡ 0 = omega arith in rw e
last_skip t a (suc f) h z = elim (dec_lt a (suc f)) [
  | yes l ↦ rw (z f (omega arith) (omega arith)) (last_skip t a f (omega arith) (λ d x y. z d x (omega arith)))
  | no l ↦ let e : a ≡ suc f = omega arith in rw e
]

-- the positions of an edge's ends
pub lo_first : (k : ℕ) → k < 3 → lo k ≡ 0
unfolding every lo
lo_first k h = eqb-true (lo k) 0 (every_is (λ k. eqb (lo k) 0) 3 refl k h)

pub lo_second : (k : ℕ) → 3 ≤ k → k < 5 → lo k ≡ 1
unfolding every lo
lo_second k h l = eqb-true (lo k) 1 (imply (ltb 2 k) (eqb (lo k) 1) (lt-ltb 2 k (omega arith)) (every_is (λ k. not (ltb 2 k) || eqb (lo k) 1) 5 refl k l))

pub lo_third : (k : ℕ) → 5 ≤ k → k < 6 → lo k ≡ 2
unfolding lo
lo_third k h l = let e : k ≡ 5 = omega arith in rw e

pub hi_lt : (k : ℕ) → k < 6 → hi k < 4
hi_lt k h = (two_slots k h).within

pub lo_lt : (k : ℕ) → k < 6 → lo k < 4
lo_lt k h = elim (dec_lt k 3) [ yes l ↦ omega (arith, lo_first k l) | no l ↦ elim (dec_lt k 5) [ yes m ↦ omega (arith, lo_second k (omega arith) m) | no m ↦ omega (arith, lo_third k (omega arith) h) ] ]

-- an edge by its ends
module _ (edges : List ℕ) (u v e : ℕ) where
  pub joins_is : low edges e ≡ u → high edges e ≡ v → joins edges u v e ≡ true
  unfolding joins
  joins_is p q = rw (eq-eqb (low edges e) u p, eq-eqb (high edges e) v q)

  pub joins_low : low edges e ≢ u → joins edges u v e ≡ false
  unfolding joins
  joins_low p = rw (ne_eqb (low edges e) u p)

  pub joins_high : high edges e ≢ v → joins edges u v e ≡ false
  unfolding joins
  joins_high p = and_false_right (eqb (low edges e) u) (eqb (high edges e) v) (ne_eqb (high edges e) v p)

  pub joined_low : joins edges u v e ≡ true → low edges e ≡ u
  unfolding joins
  joined_low h = eqb-true (low edges e) u (and_left (eqb (low edges e) u) (eqb (high edges e) v) h)

  pub joined_high : joins edges u v e ≡ true → high edges e ≡ v
  unfolding joins
  joined_high h = eqb-true (high edges e) v (and_right (eqb (low edges e) u) (eqb (high edges e) v) h)

-- the loop of `fill_run` has put the edges from a up to e
pub record Filling (edges : List ℕ) (m cap a : ℕ) (tab₀ : List ℕ) (e : ℕ) (tab : List ℕ) : Type 0 where
  pub from : a ≤ e
  pub within : e ≤ m
  pub run : OneLow edges a e
  pub tabled : Tabled edges cap (low edges a) e tab
  pub same : length tab ≡ length tab₀

pub filling_start : {edges : List ℕ} {m cap a : ℕ} {tab : List ℕ} → Fillable edges m cap a tab → Filling edges m cap a tab a tab
filling_start F = record { from = omega arith; within = omega (arith, F.from); run = λ d h l. absurd (omega arith); tabled = F.tabled; same = refl }

module _ {edges : List ℕ} {m cap a : ℕ} {tab₀ : List ℕ} {e : ℕ} {tab : List ℕ} (w : Filling edges m cap a tab₀ e tab) where
  pub filling_more : e < m → low edges e ≡ low edges a → (x : ℕ) → x ≡ min e cap → (tab' : List ℕ) → tab' ≡ set tab (high edges e) (x + 1)
      → Filling edges m cap a tab₀ (e + 1) tab'
  filling_more lt eu x ex tab' et = record {
    from = omega (arith, w.from);
    within = omega arith;
    run = λ d h l. elim (ℕ_discrete d e) [ yes q ↦ rw q eu | no q ↦ w.run d h (omega arith) ];
    tabled = record { at = λ v h. rw et (at v (omega (arith, ap length et, length-set tab (high edges e) (x + 1)))) };
    same = ap length et ∙ length-set tab (high edges e) (x + 1) ∙ w.same;
  }
    where
      at : (v : ℕ) → v < length tab → get_or (set tab (high edges e) (x + 1)) v 0 ≡ place_below edges cap (low edges a) v (e + 1)
      at v h = elim (ℕ_discrete v (high edges e)) [
        | yes q ↦
            let l = last_hit (joins edges (low edges a) v) e (joins_is edges (low edges a) v e eu (sym q)) in
            let g : get_or (set tab (high edges e) (x + 1)) v 0 ≡ x + 1 = rw (← q) (get_or-set_same tab v (x + 1) 0 h) in
            g ∙ rw l (omega arith)
        | no q ↦
            let l = last_miss (joins edges (low edges a) v) e (joins_high edges (low edges a) v e (λ z. q (sym z))) in
            get_or-set_other tab (high edges e) v (x + 1) 0 q ∙ w.tabled.at v h ∙ rw l
      ]

  pub filling_stop : low edges e ≢ low edges a → RunFilled edges m cap a e tab₀ tab
  filling_stop ne = record {
    more = elim (ℕ_discrete a e) [ yes q ↦ absurd (ne (ap (low edges) (sym q))) | no q ↦ omega (arith, w.from) ];
    within = w.within;
    run = w.run;
    stops = λ h. ne;
    tabled = w.tabled;
    same = w.same;
  }

  pub filling_end : a < m → m ≤ e → RunFilled edges m cap a m tab₀ tab
  filling_end lt h =
      let q : e ≡ m = omega (arith, w.within) in
      record { more = lt; within = omega arith; run = rw q at w.run; stops = λ k. absurd (omega arith); tabled = rw q at w.tabled; same = w.same }

-- the loop of `clear_run` has come to e
pub record Clearing (edges : List ℕ) (f e : ℕ) (tab : List ℕ) : Type 0 where
  pub only : (v : ℕ) → 0 < get_or tab v 0 → EndIn edges e f v

module _ {edges : List ℕ} {f e : ℕ} {tab : List ℕ} (w : Clearing edges f e tab) where
  pub clearing_more : (tab' : List ℕ) → tab' ≡ set tab (high edges e) 0 → Clearing edges f (e + 1) tab'
  clearing_more tab' et = rw et (record { only = only })
    where
      only : (v : ℕ) → 0 < get_or (set tab (high edges e) 0) v 0 → EndIn edges (e + 1) f v
      only v p = elim (ℕ_discrete v (high edges e)) [
        | yes q ↦
            let l = entry_within (set tab (high edges e) 0) v p in
            let z : get_or (set tab (high edges e) 0) v 0 ≡ 0 = rw (← q) (get_or-set_same tab v 0 0 (omega (arith, length-set tab (high edges e) 0))) in
            absurd (omega arith)
        | no q ↦
            let x = w.only v (rw (get_or-set_other tab (high edges e) v 0 0 q) at p) in
            record { e = x.e; from = elim (ℕ_discrete x.e e) [ yes z ↦ absurd (q (sym x.is ∙ ap (high edges) z)) | no z ↦ omega (arith, x.from) ]; to = x.to; is = x.is }
      ]

  pub clearing_end : f ≤ e → Blanked tab
  clearing_end h v = elim (dec_lt 0 (get_or tab v 0)) [ yes p ↦ absurd (let x = w.only v p in omega (arith, x.from, x.to)) | no p ↦ omega arith ]

-- what is put
pub lays_none : (P : ℕ → ℕ → Type 0) (cells tab sides : List ℕ) → ((c k : ℕ) → P c k → ⊥) → Lays P cells tab sides sides
lays_none P cells tab sides none = record { same = refl; put = λ c k l p. absurd (none c k p); keep = λ c k l p. refl }

pub lays_then : {P Q : ℕ → ℕ → Type 0} {cells tab sides₀ sides₁ sides₂ : List ℕ} → Lays P cells tab sides₀ sides₁ → Lays Q cells tab sides₁ sides₂ → (R : ℕ → ℕ → Type 0)
    → ((c k : ℕ) → P c k → R c k) → ((c k : ℕ) → k < 6 → Q c k → R c k) → ((c k : ℕ) → k < 6 → R c k → P c k ⊎ Q c k) → ((c k : ℕ) → P c k → Q c k → ⊥)
    → Lays R cells tab sides₀ sides₂
lays_then {P} {Q} {cells} {tab} {sides₀} {sides₁} {sides₂} A B R left right both apart = record {
  same = B.same ∙ A.same;
  put = λ c k l r. ⊎_elim (λ (p : P c k). B.keep c k l (apart c k p) ∙ A.put c k l p) (λ (q : Q c k). B.put c k l q) (both c k l r);
  keep = λ c k l n. B.keep c k l (λ q. n (right c k l q)) ∙ A.keep c k l (λ p. n (left c k p));
}

pub lays_one : {cells tab sides : List ℕ} {c k : ℕ} → k < 6 → 6 * c + k < length sides → (x : ℕ) → x ≡ get_or tab (node cells c (hi k)) 0 → (sides' : List ℕ)
    → sides' ≡ set sides (6 * c + k) x → Lays (InCell c k (k + 1)) cells tab sides sides'
lays_one {cells} {tab} {sides} {c} {k} lk room x ex sides' es = rw es (record {
  same = length-set sides (6 * c + k) x;
  put = λ d q l p.
      let a = p.cell in
      let b : q ≡ k = omega (arith, p.low, p.high) in
      rw (a, b) (get_or-set_same sides (6 * c + k) x 0 room ∙ ex);
  keep = λ d q l n. get_or-set_other sides (6 * c + k) (6 * d + q) x 0 (λ z. n (record { cell = omega arith; low = omega arith; high = omega arith }));
})

-- the loop of `put_sides`
pub putting_more : {cells tab sides₀ sides : List ℕ} {c a k : ℕ} → Lays (InCell c a k) cells tab sides₀ sides → a ≤ k → (sides' : List ℕ) → Lays (InCell c k (k + 1)) cells tab sides sides'
    → Lays (InCell c a (k + 1)) cells tab sides₀ sides'
putting_more {c = c} {a = a} {k = k} w h sides' one = lays_then w one (InCell c a (k + 1))
    (λ d q p. record { cell = p.cell; low = p.low; high = omega (arith, p.high) })
    (λ d q l p. record { cell = p.cell; low = omega (arith, p.low); high = p.high })
    (λ d q l p. elim (dec_lt q k) [ yes m ↦ inl (record { cell = p.cell; low = p.low; high = m }) | no m ↦ inr (record { cell = p.cell; low = omega arith; high = p.high }) ])
    (λ d q x y. omega (arith, x.high, y.low))

pub putting_end : {cells tab sides₀ sides : List ℕ} {c a b k : ℕ} → Lays (InCell c a k) cells tab sides₀ sides → k ≤ b → b ≤ k → Lays (InCell c a b) cells tab sides₀ sides
putting_end {b = b} {k = k} w h l = let e : k ≡ b = omega arith in rw e at w

-- the loop of `walk_sides` stands at j: the cells from j on are done
pub record StandingSides (f : ℕ → ℕ) (r n a b : ℕ) (cells tab sides₀ sides : List ℕ) (j : ℕ) : Type 0 where
  pub within : j ≤ n
  pub hit : 0 < j → f (j - 1) ≡ r
  pub lays : Lays (InChain f r j n a b) cells tab sides₀ sides

pub record WalkingSides (cells head next : List ℕ) (r a b : ℕ) (tab sides₀ sides : List ℕ) (j : ℕ) : Type 0 where
  pub over : (f : ℕ → ℕ) (T n : ℕ) → Linked f T n head next → r < T → StandingSides f r n a b cells tab sides₀ sides j
  pub same : length sides ≡ length sides₀

module _ {cells head next : List ℕ} {r a b : ℕ} {tab sides₀ : List ℕ} where
  pub along_start : (x : ℕ) → x ≡ get_or head r 0 → WalkingSides cells head next r a b tab sides₀ sides₀ x
  along_start x e = record {
    over = λ f T n L h.
        let q : x ≡ last (labelled f r) n = e ∙ L.heads.at r h in
        record {
          within = entry_le f r n x q;
          hit = entry_is f r n x q;
          lays = lays_none _ cells tab sides₀ (λ c k p. entry_above f r n x q c p.from p.to p.label);
        };
    same = refl;
  }

  module _ {sides : List ℕ} {j : ℕ} (w : WalkingSides cells head next r a b tab sides₀ sides j) (pos : 0 < j) where
    pub along_puttable : SidesWalkable cells head next r a b tab sides₀ → SidesPuttable cells (j - 1) a b tab sides
    along_puttable A =
        let s = w.over A.f A.T A.n A.linked A.within in
        record {
          n = A.n;
          layable = record { cells-are = A.layable.cells-are; few = A.layable.few; known = A.layable.known; room = omega (arith, A.layable.room, w.same) };
          within = omega (arith, s.within);
          ordered = A.ordered;
          edges = A.edges;
        }

    pub along_more : {sides' : List ℕ} → Lays (InCell (j - 1) a b) cells tab sides sides' → (x : ℕ) → x ≡ get_or next (j - 1) 0
        → WalkingSides cells head next r a b tab sides₀ sides' x
    along_more E x e = record {
      over = λ f T n L h.
          let s = w.over f T n L h in
          let q : x ≡ last (labelled f r) (j - 1) = rw (← s.hit pos) (e ∙ L.nexts.at (j - 1) (omega (arith, s.within))) in
          let xl = entry_le f r (j - 1) x q in
          record {
            within = omega (arith, s.within);
            hit = entry_is f r (j - 1) x q;
            lays = lays_then s.lays E (InChain f r x n a b)
                (λ c k p. record { label = p.label; from = omega (arith, p.from); to = p.to; low = p.low; high = p.high })
                (λ c k l p. record { label = ap f p.cell ∙ s.hit pos; from = omega (arith, p.cell); to = omega (arith, p.cell, s.within); low = p.low; high = p.high })
                (λ c k l p. elim (dec_lt c j) [
                  | yes y ↦ elim (dec_lt c (j - 1)) [
                    | yes m ↦ absurd (entry_above f r (j - 1) x q c p.from m p.label)
                    | no m ↦ inr (record { cell = omega arith; low = p.low; high = p.high })
                  ]
                  | no y ↦ inl (record { label = p.label; from = omega arith; to = p.to; low = p.low; high = p.high })
                ])
                (λ c k p q. omega (arith, p.from, q.cell));
          };
      same = E.same ∙ w.same;
    }

    pub along_lt : SidesWalkable cells head next r a b tab sides₀ → j - 1 < length next
    along_lt A = (let s = w.over A.f A.T A.n A.linked A.within in omega (arith, s.within, A.linked.nexts.room))

    pub along_less : SidesWalkable cells head next r a b tab sides₀ → get_or next (j - 1) 0 < j
    along_less A =
        let s = w.over A.f A.T A.n A.linked A.within in
        omega (arith, entry_le A.f (A.f (j - 1)) (j - 1) (get_or next (j - 1) 0) (A.linked.nexts.at (j - 1) (omega (arith, s.within))))

  pub along_end : {sides : List ℕ} {j : ℕ} → WalkingSides cells head next r a b tab sides₀ sides j → j ≤ 0 → SidesWalked cells head next r a b tab sides₀ sides
  along_end {sides} {j} w z = record { over = λ f T n L h. (let q : j ≡ 0 = omega arith in rw q at (w.over f T n L h).lays); same = w.same }

-- the turn of a node
module _ {cells ranks h0 x0 h1 x1 h2 x2 : List ℕ} {u : ℕ} {tab sides₀ : List ℕ} (A : Turnable cells ranks h0 x0 h1 x1 h2 x2 u tab sides₀) (r : ℕ) (er : r ≡ get_or ranks u 0) where
  C : NodeChains cells ranks h0 x0 h1 x1 h2 x2
  C = A.chained

  rank_lt : r < A.chained.T
  rank_lt = rw er (A.chained.rank_lt u)

  still : {sides : List ℕ} → length sides ≡ length sides₀ → Layable cells (cell_count cells) tab sides
  still e = record { cells-are = A.layable.cells-are; few = A.layable.few; known = A.layable.known; room = omega (arith, A.layable.room, e) }

  pub turn_walkable : (i a b : ℕ) (head next : List ℕ) → Linked (A.chained.g i) A.chained.T (cell_count cells) head next → a ≤ b → b ≤ 6
      → (sides : List ℕ) → length sides ≡ length sides₀ → SidesWalkable cells head next r a b tab sides
  turn_walkable i a b head next L o l sides e = record {
    f = A.chained.g i;
    T = A.chained.T;
    n = cell_count cells;
    linked = L;
    within = rank_lt;
    layable = still e;
    ordered = o;
    edges = l;
  }

  abbrev In : ℕ → ℕ → ℕ → ℕ → ℕ → Type 0
  In i a b = InChain (A.chained.g i) r 0 (cell_count cells) a b

  -- the cells of a chain have the node at its position
  there : (i c : ℕ) → i < 4 → c < cell_count cells → A.chained.g i c ≡ r → node cells c i ≡ u
  there i c li lc e = A.chained.told i c u li lc (e ∙ er)

  here : (i c : ℕ) → i < 4 → c < cell_count cells → node cells c i ≡ u → A.chained.g i c ≡ r
  here i c li lc e = A.chained.same i c li lc ∙ rw e (sym er)

  pub turn_lays : {sides₁ sides₂ sides₃ : List ℕ} → SidesWalked cells h0 x0 r 0 3 tab sides₀ sides₁ → SidesWalked cells h1 x1 r 3 5 tab sides₁ sides₂
      → SidesWalked cells h2 x2 r 5 6 tab sides₂ sides₃ → Lays (FromNode cells u) cells tab sides₀ sides₃
  turn_lays {sides₁} {sides₂} {sides₃} W0 W1 W2 = lays_then two (W2.over _ _ _ A.chained.by2 rank_lt) (FromNode cells u)
      (λ c k x. ⊎_elim (λ (p : In 0 0 3 c k). record { to = p.to; is = rw (lo_first k p.high) (there 0 c (omega arith) p.to p.label) })
      (λ (p : In 1 3 5 c k). record { to = p.to; is = rw (lo_second k p.low p.high) (there 1 c (omega arith) p.to p.label) }) x)
      (λ c k l p. record { to = p.to; is = rw (lo_third k p.low l) (there 2 c (omega arith) p.to p.label) })
      (λ c k l p. elim (dec_lt k 3) [
        | yes x ↦ inl (inl (record { label = here 0 c (omega arith) p.to (rw (lo_first k x) at p.is); from = omega arith; to = p.to; low = omega arith; high = x }))
        | no x ↦ elim (dec_lt k 5) [
          | yes y ↦ inl (inr (record { label = here 1 c (omega arith) p.to (rw (lo_second k (omega arith) y) at p.is); from = omega arith; to = p.to; low = omega arith; high = y }))
          | no y ↦ inr (record { label = here 2 c (omega arith) p.to (rw (lo_third k (omega arith) l) at p.is); from = omega arith; to = p.to; low = omega arith; high = l })
        ]
      ])
      (λ c k x q. ⊎_elim (λ (p : In 0 0 3 c k). omega (arith, p.high, q.low)) (λ (p : In 1 3 5 c k). omega (arith, p.high, q.low)) x)
    where
      two : Lays (λ c k. In 0 0 3 c k ⊎ In 1 3 5 c k) cells tab sides₀ sides₂
      two = lays_then (W0.over _ _ _ A.chained.by0 rank_lt) (W1.over _ _ _ A.chained.by1 rank_lt) (λ c k. In 0 0 3 c k ⊎ In 1 3 5 c k)
          (λ c k p. inl p) (λ c k l p. inr p) (λ c k l p. p) (λ c k p q. omega (arith, p.high, q.low))

-- the loop of `place_sides` has read the edges before e
pub record PlacingSides (cells edges : List ℕ) (m : ℕ) (tab₀ sides₀ : List ℕ) (e : ℕ) (tab sides : List ℕ) : Type 0 where
  pub within : e ≤ m
  pub placed : SidesPlaced cells edges e sides
  pub blank : Blanked tab
  pub fresh : e < m → (d : ℕ) → d < e → low edges d < low edges e
  pub tab_same : length tab ≡ length tab₀
  pub same : length sides ≡ length sides₀

module _ {cells edges : List ℕ} {m : ℕ} {ranks h0 x0 h1 x1 h2 x2 tab₀ sides₀ : List ℕ} (A : SidesPlaceable cells edges m ranks h0 x0 h1 x1 h2 x2 tab₀ sides₀) where
  pub placing_start : PlacingSides cells edges m tab₀ sides₀ 0 tab₀ sides₀
  placing_start = record {
    within = omega arith;
    placed = record { at = λ c k h l. (let z = last_none (joins edges (node cells c (lo k)) (node cells c (hi k))) in A.blank (6 * c + k) ∙ sym (rw z (omega arith))) };
    blank = A.tab_blank;
    fresh = λ h d l. absurd (omega arith);
    tab_same = refl;
    same = refl;
  }

  module _ {e : ℕ} {tab sides : List ℕ} (w : PlacingSides cells edges m tab₀ sides₀ e tab sides) (lt : e < m) where
    pub placing_fillable : (cap : ℕ) → cap ≡ 6 * cell_count cells → Fillable edges m cap e tab
    placing_fillable cap ec = record {
      ends = A.ends;
      from = lt;
      small = omega (arith, A.few);
      tabled = record {
        at = λ v h.
            let z = last_skip (joins edges (low edges e) v) 0 e (omega arith) (λ d x y. joins_low edges (low edges e) v d (λ q. omega (arith, w.fresh lt d y))) in
            let o = last_none (joins edges (low edges e) v) in
            w.blank v ∙ sym (rw (z, o) (omega arith));
      };
    }

    pub placing_turnable : (u : ℕ) → u ≤ highest_node → (tab' : List ℕ) → length tab' ≡ length tab → Turnable cells ranks h0 x0 h1 x1 h2 x2 u tab' sides
    placing_turnable u hu tab' el = record {
      chained = A.chained;
      layable = record { cells-are = omega arith; few = A.few; known = λ c i h l. omega (arith, A.nodes c i h l, A.tab_room, el, w.tab_same); room = omega (arith, A.room, w.same) };
      node_lt = hu;
    }

    module _ {cap f : ℕ} {tab' : List ℕ} (ec : cap ≡ 6 * cell_count cells) (R : RunFilled edges m cap e f tab tab') where
      pub placing_clearable : Clearable edges e f tab'
      placing_clearable = record {
        ends = omega (arith, A.ends, R.within);
        only = λ v p.
            let q = R.tabled.at v (entry_within tab' v p) in
            let s : 0 < last (joins edges (low edges e) v) f = omega arith in
            let j = last_is (joins edges (low edges e) v) f s in
            let x = last (joins edges (low edges e) v) f - 1 in
            record {
              e = x;
              from = elim (dec_lt x e) [ yes l ↦ absurd (omega (arith, w.fresh lt x l, joined_low edges (low edges e) v x j)) | no l ↦ omega arith ];
              to = omega (arith, last_le (joins edges (low edges e) v) f);
              is = joined_high edges (low edges e) v x j;
            };
      }

      later : (d : ℕ) → d < f → low edges d ≤ low edges e
      later d h = elim (dec_lt d e) [ yes l ↦ omega (arith, w.fresh lt d l) | no l ↦ omega (arith, R.run d (omega arith) h) ]

      pub placing_more : (u : ℕ) → u ≡ low edges e → (tab'' sides' : List ℕ) → Blanked tab'' → length tab'' ≡ length tab → Lays (FromNode cells u) cells tab' sides sides'
          → PlacingSides cells edges m tab₀ sides₀ f tab'' sides'
      placing_more u eu tab'' sides' z el L = record {
        within = R.within;
        placed = record { at = at };
        blank = z;
        fresh = λ h d l. (let s = A.sorted e f R.more h in let n : low edges f ≢ low edges e = R.stops h in omega (arith, later d l));
        tab_same = el ∙ w.tab_same;
        same = L.same ∙ w.same;
      }
        where
          at : (c k : ℕ) → c < cell_count cells → k < 6 → get_or sides' (6 * c + k) 0 ≡ place_below edges (6 * cell_count cells) (node cells c (lo k)) (node cells c (hi k)) f
          at c k h l = elim (ℕ_discrete (node cells c (lo k)) u) [
            | yes q ↦
                let v = node cells c (hi k) in
                let t = R.tabled.at v (omega (arith, A.nodes c (hi k) h (hi_lt k l), A.tab_room, R.same, w.tab_same)) in
                L.put c k l (record { to = h; is = q }) ∙ t ∙ rw (q, eu, ec)
            | no q ↦
                let s = last_skip (joins edges (node cells c (lo k)) (node cells c (hi k))) e f (omega (arith, R.more))
                (λ d x y. joins_low edges (node cells c (lo k)) (node cells c (hi k)) d (λ z. q (sym z ∙ R.run d x y ∙ sym eu))) in
                L.keep c k l (λ p. q p.is) ∙ w.placed.at c k h l ∙ rw s
          ]

    -- an edge above the highest node: no cell has it or one after it
    pub placing_stop : highest_node < low edges e → SidesPlaced cells edges m sides
    placing_stop above = record {
      at = λ c k h l.
          let s = last_skip (joins edges (node cells c (lo k)) (node cells c (hi k))) e m (omega arith)
          (λ d x y. joins_low edges (node cells c (lo k)) (node cells c (hi k)) d (λ z. (let b = A.nodes c (lo k) h (lo_lt k l) in elim (ℕ_discrete d e) [ yes q ↦ omega (arith, ap (low edges) q) | no q ↦ omega (arith, A.sorted e d (omega arith) y) ]))) in
          w.placed.at c k h l ∙ rw s;
    }

  pub placing_end : {e : ℕ} {tab sides : List ℕ} → PlacingSides cells edges m tab₀ sides₀ e tab sides → m ≤ e → SidesPlaced cells edges m sides
  placing_end {e} w h = let q : e ≡ m = omega (arith, w.within) in rw q at w.placed

-- the loop of `tally` has met the first j places
pub record Tallying (sides : List ℕ) (j : ℕ) (top₀ degree₀ top degree : List ℕ) : Type 0 where
  pub tops : (t : ℕ) → t < length top → get_or top t 0 ≡ last (same_key sides t) j
  pub degrees : (t : ℕ) → t < length top → get_or degree t 0 ≡ count (same_key sides t) j
  pub top_same : length top ≡ length top₀
  pub degree_same : length degree ≡ length degree₀

module _ {sides : List ℕ} {n : ℕ} {top₀ degree₀ : List ℕ} (A : Talliable sides n top₀ degree₀) where
  pub tallying_start : Tallying sides 0 top₀ degree₀ top₀ degree₀
  tallying_start = record {
    tops = λ t h. A.top_blank t ∙ sym (last_none (same_key sides t));
    degrees = λ t h. A.degree_blank t ∙ sym (count_none (same_key sides t) 0 (λ i l. absurd (omega arith)));
    top_same = refl;
    degree_same = refl;
  }

  module _ {j : ℕ} {top degree : List ℕ} (w : Tallying sides j top₀ degree₀ top degree) (lt : j < n) (t : ℕ) (et : t ≡ get_or sides j 0) where
    pub tallying_lt : t < length top
    tallying_lt = omega (arith, A.below j lt, w.top_same)

    pub tallying_room : t < length degree
    tallying_room = omega (arith, tallying_lt, A.long, w.top_same, w.degree_same)

    pub tallying_few : get_or degree t 0 ≤ j
    tallying_few = omega (arith, w.degrees t tallying_lt, count_le (same_key sides t) j)

    pub tallying_more : Tallying sides (j + 1) top₀ degree₀ (set top t (j + 1)) (set degree t (get_or degree t 0 + 1))
    unfolding same_key count
    tallying_more = record {
      tops = λ s h. elim (ℕ_discrete s t) [
        | yes q ↦ rw (q, get_or-set_same top t (j + 1) 0 tallying_lt) (sym (last_hit (same_key sides t) j (eq-eqb (get_or sides j 0) t (sym et))))
        | no q ↦ get_or-set_other top t s (j + 1) 0 q ∙ w.tops s (omega (arith, length-set top t (j + 1))) ∙ sym (last_miss (same_key sides s) j (ne_eqb (get_or sides j 0) s (λ z. q (sym (et ∙ z)))))
      ];
      degrees = λ s h. elim (ℕ_discrete s t) [
        | yes q ↦ rw (q, get_or-set_same degree t (get_or degree t 0 + 1) 0 tallying_room) (ap (λ x. x + 1) (w.degrees t tallying_lt) ∙ sym (count_hit (same_key sides t) j (eq-eqb (get_or sides j 0) t (sym et))))
        | no q ↦ get_or-set_other degree t s (get_or degree t 0 + 1) 0 q ∙ w.degrees s (omega (arith, length-set top t (j + 1))) ∙ sym (count_miss (same_key sides s) j (ne_eqb (get_or sides j 0) s (λ z. q (sym (et ∙ z)))))
      ];
      top_same = length-set top t (j + 1) ∙ w.top_same;
      degree_same = length-set degree t (get_or degree t 0 + 1) ∙ w.degree_same;
    }
      where
        count_hit : (f : ℕ → Bool) (i : ℕ) → f i ≡ true → count f (i + 1) ≡ count f i + 1
        count_hit f i h = let e : i + 1 ≡ suc i = omega arith in rw (e, h)

        count_miss : (f : ℕ → Bool) (i : ℕ) → f i ≡ false → count f (i + 1) ≡ count f i
        count_miss f i h = let e : i + 1 ≡ suc i = omega arith in rw (e, h) (omega arith)

  pub tallying_end : {j : ℕ} {top degree : List ℕ} → Tallying sides j top₀ degree₀ top degree → j ≤ n → n ≤ j → Tallied sides (length top₀) n top degree
  tallying_end {j} {top} {degree} w a b =
      let q : j ≡ n = omega arith in
      record {
        top_room = omega (arith, w.top_same);
        degree_room = omega (arith, w.degree_same, A.long);
        tops = λ t h. rw q at (w.tops t (omega (arith, w.top_same)));
        degrees = λ t h. rw q at (w.degrees t (omega (arith, w.top_same)));
      }
