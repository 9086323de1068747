-- What stands in a cell's routes.
use Prim.Native.Nat.{ℕ, ◌+◌, ◌*◌, ◌-◌, ◌≤◌, ◌<◌}
use mathlib.Core.Path.{◌≡◌, refl, sym, ap, ◌∙◌}
use mathlib.Core.Logic.{inl, inr, ◌≢◌, ⊎_elim}
use mathlib.Core.Bool.{Bool, true, false, ◌||◌}
use mathlib.Core.List.{List, [], ◌∷◌}
use native.Mathlib.Nat.{eq-or-lt_of_le}
use native.Mathlib.Omega.{arith}
use native.Mathlib.Decide.{dec_lt}
use lib.Dec.{eqb, ltb}
use lib.ListN.{length, get_or, set, length-set}
use lib.Seq.{sets, length-sets, get_or-set_same, get_or-set_other}
use native.Mathlib.Numerals.{add-one}
use borrow.Author.Tests.{eqb-true, eq-eqb, ne_eqb, le-ltb}
use Rattle.counting.specs.Pick.{pick}
use Rattle.counting.specs.Lists.{total, pre}
use Rattle.counting.specs.Search.{every}
use Rattle.counting.proofs.Range.{total_next}
use Rattle.counting.proofs.Search.{every_is}
use Rattle.counting.proofs.Stores.{get_or_sets_in, get_or_sets_out}
use Rattle.counting.proofs.Pack.{pre_next, pre_most}
use Rattle.slots.specs.Limits.{most_count}
use Rattle.slots.specs.Slots.{slot_edge, first_slot, lower, upper}
use Rattle.face.specs.Face.{other}
use Rattle.face.specs.work.Corners.{corners}
use Rattle.face.specs.claims.Ends.{low, high}
use Rattle.face.proofs.Ends.{edge-of}
use Rattle.face.proofs.Gaps.{corner_node}
use Rattle.cell.specs.declared.Cell.{Cell}
use Rattle.cell.specs.declared.Run.{Run}
use Rattle.cell.specs.Cell.{Edges, ahead, base, number}
use Rattle.cell.specs.Of.{count_of, start_of, edges_of}
use Rattle.cell.specs.work.Half.{half_edges, half_of, twin, around}
use Rattle.cell.specs.claims.Half.{rank_of, edge_of}
use Rattle.cell.specs.work.Route.{columns, low_column, high_column, count_column, first_column, start_column, round_low_column, round_high_column, twin_column, rank_column, half_corner, front, fronts, links, IsRun, SlotRuns, Routed}
use Rattle.cell.specs.work.Limits.{most_in_cell, start_limit}
use Rattle.cell.proofs.Lay.{base_all, laid_same}
use Rattle.cell.proofs.Half.{edge_lt, half-slot, half_place, half-edge, first_half}

length_front : (w : Edges) (h : ℕ) → length (front w h) ≡ 5
unfolding front
length_front w h = refl

-- the five numbers of edge j of slot s, with the corner counts of the slot's face
front_at : (w : Edges) (s j : ℕ) → j < 3 → (k : List ℕ) → k ≡ corners (w.count (slot_edge s 0)) (w.count (slot_edge s 1)) (w.count (slot_edge s 2))
    → front w (3 * s + j) ≡ get_or k (lower j) 0 ∷ get_or k (upper j) 0 ∷ w.count (slot_edge s j) ∷ base w (slot_edge s j) ∷ w.start (slot_edge s j) ∷ []
unfolding front half_corner
front_at w s j l k e =
    rw (
      half-slot s j l,
      half_place s j l,
      half-edge s j l,
      e,
      corner_node (w.count (slot_edge s 0)) (w.count (slot_edge s 1)) (w.count (slot_edge s 2)) (low (edge-of j l)),
      corner_node (w.count (slot_edge s 0)) (w.count (slot_edge s 1)) (w.count (slot_edge s 2)) (high (edge-of j l)),
    ) refl

-- the half-edges of a slot are written one after the other
pub slot_fronts : {c : Cell} {s : ℕ} {x y z : Run} → SlotRuns c s x y z → (l m n o : List ℕ) {a b d a' b' d' : ℕ} → a ≡ a' → b ≡ b' → d ≡ d'
    → a' ∷ b' ∷ d' ∷ [] ≡ corners x.count y.count z.count
    → m ≡ sets l (9 * (3 * s)) (a ∷ b ∷ x.count ∷ x.first ∷ x.start ∷ [])
    → n ≡ sets m (9 * (3 * s + 1)) (a ∷ d ∷ y.count ∷ y.first ∷ y.start ∷ [])
    → o ≡ sets n (9 * (3 * s + 2)) (b ∷ d ∷ z.count ∷ z.first ∷ z.start ∷ [])
    → o ≡ fronts (edges_of c) s l
unfolding fronts lower upper
slot_fronts {c} {s} {x} {y} {z} R l m n o {a} {b} {d} ea eb ed k em en eo =
    let w = edges_of c in
    let K : a ∷ b ∷ d ∷ [] ≡ corners (w.count (slot_edge s 0)) (w.count (slot_edge s 1)) (w.count (slot_edge s 2)) =
    rw (ea, eb, ed, k, R.of_ab.count_is, R.of_ac.count_is, R.of_bc.count_is) refl in
    let e : 3 * s + 0 ≡ 3 * s = omega arith in
    let A : front w (3 * s) ≡ a ∷ b ∷ x.count ∷ x.first ∷ x.start ∷ [] = rw e at (front_at w s 0 (omega arith) (a ∷ b ∷ d ∷ []) K) ∙ cc in
    let B : front w (3 * s + 1) ≡ a ∷ d ∷ y.count ∷ y.first ∷ y.start ∷ [] = front_at w s 1 (omega arith) (a ∷ b ∷ d ∷ []) K ∙ cc in
    let D : front w (3 * s + 2) ≡ b ∷ d ∷ z.count ∷ z.first ∷ z.start ∷ [] = front_at w s 2 (omega arith) (a ∷ b ∷ d ∷ []) K ∙ cc in
    rw (A, B, D) (eo ∙ ap (λ t. sets t (9 * (3 * s + 2)) (b ∷ d ∷ z.count ∷ z.first ∷ z.start ∷ [])) (en ∙ ap (λ t. sets t (9 * (3 * s + 1)) (a ∷ d ∷ y.count ∷ y.first ∷ y.start ∷ [])) em))

-- which of two edges is laid first
pub ahead_same : (w : Edges) (k j : ℕ) → w.start j ≡ w.start k → ltb j k ≡ ahead w k j
unfolding ahead
ahead_same w k j e = rw (e, le-ltb (w.start k) (w.start k) (omega arith), eq-eqb (w.start k) (w.start k) refl)

pub ahead_other : (w : Edges) (k j : ℕ) → w.start j ≢ w.start k → ltb (w.start j) (w.start k) ≡ ahead w k j
unfolding ahead
ahead_other w k j n = rw (ne_eqb (w.start j) (w.start k) n) (sym (or_none (ltb (w.start j) (w.start k))))
  where
    or_none : (b : Bool) → (b || false) ≡ b
    or_none true = refl
    or_none false = refl

-- the counts of the edges below j, summed; and of those that are laid before k
pub record Sum (w : Edges) (j n : ℕ) : Type 0 where
  pub is : n ≡ pre w.count j
  pub few : n ≤ most_count * j

pub record SumBefore (w : Edges) (k j n : ℕ) : Type 0 where
  pub is : n ≡ total (λ i. pick (ahead w k i) (w.count i) 0) j 0
  pub few : n ≤ most_count * j

module _ {w : Edges} where
  pub sum_none : Sum w 0 0
  unfolding pre total
  sum_none = record { is = refl; few = omega arith }

  pub sum_more : {j n : ℕ} → Sum w j n → (m : ℕ) → (m ≡ w.count j) × (m ≤ most_count) → Sum w (j + 1) (n + m)
  sum_more {j} {n} S m e = record { is = rw add-one (omega (arith, S.is, e.0, pre_next w.count 0 j)); few = omega (arith, S.few, e.1) }

  pub sum_first : (m : ℕ) → (m ≡ w.count 0) × (m ≤ most_count) → Sum w 1 m
  sum_first m e = let z : 0 + m ≡ m = omega arith in rw z at (sum_more sum_none m e)

  pub before_none : (k : ℕ) → SumBefore w k 0 0
  unfolding total
  before_none k = record { is = refl; few = omega arith }

  module _ {k j n : ℕ} (S : SumBefore w k j n) where
    pub before_more : ahead w k j ≡ true → (m : ℕ) → (m ≡ w.count j) × (m ≤ most_count) → SumBefore w k (j + 1) (n + m)
    before_more a m e = record {
      is = omega (arith, S.is, e.0, total_next (λ i. pick (ahead w k i) (w.count i) 0) j, ap (λ b. pick b (w.count j) 0) a);
      few = omega (arith, S.few, e.1);
    }

    pub before_skip : ahead w k j ≡ false → SumBefore w k (j + 1) n
    before_skip a = record {
      is = omega (arith, S.is, total_next (λ i. pick (ahead w k i) (w.count i) 0) j, ap (λ b. pick b (w.count j) 0) a);
      few = omega (arith, S.few);
    }

    pub before_all : 6 ≤ j → j ≤ 6 → n ≡ base w k
    unfolding base
    before_all a b = S.is ∙ ap (λ m. total (λ i. pick (ahead w k i) (w.count i) 0) m 0) (omega arith)

-- the start of an edge is of 16 bits
start_small : {c : Cell} {e : ℕ} {x : Run} → IsRun c e x → start_of c e < start_limit
start_small R = rw R.start_is at R.near

-- the count of an edge is at most the limit, and the listed one where that is
pub count_few : (c : Cell) (e : ℕ) → count_of c e ≤ most_count
count_few c e = omega arith

pub count_listed : (c : Cell) (e : ℕ) → get_or c.counts e 0 ≤ most_count → count_of c e ≡ get_or c.counts e 0
count_listed c e h = omega arith

-- the first n half-edges have their numbers in t, and all have their links
pub record Written (c : Cell) (n : ℕ) (t : List ℕ) : Type 0 where
  pub long : length t ≡ 108
  pub linked : (h i : ℕ) → h < half_edges → i < 4 → get_or t (9 * h + (5 + i)) 0 ≡ get_or (links h) i 0
  pub counted : (h i : ℕ) → h < n → i < 5 → get_or t (9 * h + i) 0 ≡ get_or (front (edges_of c) h) i 0
  pub near : (h : ℕ) → h < n → start_of c (edge_of h) < start_limit

written_one : {c : Cell} {n : ℕ} {t : List ℕ} → Written c n t → n < half_edges → start_of c (edge_of n) < start_limit → Written c (n + 1) (sets t (9 * n) (front (edges_of c) n))
written_one {c} {n} {t} W l S = record {
  long = length-sets t (9 * n) v ∙ W.long;
  linked = λ h i a b. get_or_sets_out v t (9 * n) (9 * h + (5 + i)) 0
      (elim (dec_lt h n) [ yes g ↦ inl (omega arith) | no g ↦ inr (omega (arith, five)) ]) ∙ W.linked h i a b;
  counted = λ h i a b. ⊎_elim
      (λ (q : h ≡ n). rw q (get_or_sets_in v t (9 * n) i 0 (omega (arith, five)) (omega (arith, five, W.long))))
      (λ (g : h < n). get_or_sets_out v t (9 * n) (9 * h + i) 0 (inl (omega arith)) ∙ W.counted h i g b) (eq-or-lt_of_le (omega arith));
  near = λ h a. ⊎_elim (λ (q : h ≡ n). rw q S) (λ (g : h < n). W.near h g) (eq-or-lt_of_le (omega arith));
}
  where
    v : List ℕ
    v = front (edges_of c) n

    five : length v ≡ 5
    five = length_front (edges_of c) n

pub written_slot : {c : Cell} {t : List ℕ} {s : ℕ} {x y z : Run} → Written c (3 * s) t → s < 4 → SlotRuns c s x y z → (u : List ℕ) → u ≡ fronts (edges_of c) s t
    → Written c (3 * (s + 1)) u
unfolding fronts
written_slot {c} {t} {s} W l R u e =
    let p : 3 * s + 1 + 1 ≡ 3 * s + 2 = omega arith in
    let q : 3 * s + 2 + 1 ≡ 3 * (s + 1) = omega arith in
    let z : 3 * s + 0 ≡ 3 * s = omega arith in
    let k = half-edge s 0 (omega arith) in
    let a = written_one W (omega arith) (rw (rw z at k) (start_small R.of_ab)) in
    let b = written_one a (omega arith) (rw (half-edge s 1 (omega arith)) (start_small R.of_ac)) in
    let d = written_one (rw p at b) (omega arith) (rw (half-edge s 2 (omega arith)) (start_small R.of_bc)) in
    rw e (rw q at d)

-- all four slots: each edge has a half-edge
pub written_all : {c : Cell} {t : List ℕ} {s : ℕ} → Written c (3 * s) t → 4 ≤ s → Routed c t
written_all {c} {t} {s} W l = record {
  counted = λ h i a b. W.counted h i (omega arith) b;
  linked = W.linked;
  few = pre_most (count_of c) most_count (count_few c) 6;
  near = λ e a. let F = first_half a refl in rw F.0 at (W.near (half_of (first_slot e) e) (omega (arith, F.2)));
}

-- the links that are written down
unfoldable pub link_table : List ℕ
link_table = 0 ∷ 0 ∷ 0 ∷ 0 ∷ 0 ∷ 8 ∷ 5 ∷ 11 ∷ 0 ∷ 0 ∷ 0 ∷ 0 ∷ 0 ∷ 0 ∷ 11 ∷ 5 ∷ 8 ∷ 1 ∷ 0 ∷ 0 ∷ 0 ∷ 0 ∷ 0 ∷ 11 ∷ 8 ∷ 5 ∷ 2 ∷ 0 ∷ 0 ∷ 0 ∷ 0 ∷ 0 ∷ 7 ∷ 2 ∷ 10 ∷ 0 ∷ 0 ∷ 0 ∷ 0 ∷ 0 ∷ 0 ∷ 10 ∷ 2 ∷ 7 ∷ 1 ∷ 0 ∷ 0 ∷ 0 ∷ 0 ∷ 0 ∷ 10 ∷ 7 ∷ 2 ∷ 2 ∷ 0 ∷ 0 ∷ 0 ∷ 0 ∷ 0 ∷ 4 ∷ 1 ∷ 9 ∷ 0 ∷ 0 ∷ 0 ∷ 0 ∷ 0 ∷ 0 ∷ 9 ∷ 1 ∷ 4 ∷ 1 ∷ 0 ∷ 0 ∷ 0 ∷ 0 ∷ 0 ∷ 9 ∷ 4 ∷ 1 ∷ 2 ∷ 0 ∷ 0 ∷ 0 ∷ 0 ∷ 0 ∷ 3 ∷ 0 ∷ 6 ∷ 0 ∷ 0 ∷ 0 ∷ 0 ∷ 0 ∷ 0 ∷ 6 ∷ 0 ∷ 3 ∷ 1 ∷ 0 ∷ 0 ∷ 0 ∷ 0 ∷ 0 ∷ 6 ∷ 3 ∷ 0 ∷ 2 ∷ []

links_pass : every (λ h. every (λ i. eqb (get_or link_table (9 * h + (5 + i)) 0) (get_or (links h) i 0)) 4) half_edges ≡ true
unfolding every link_table links around lower upper other
links_pass = refl

pub written_none : (c : Cell) → Written c 0 link_table
unfolding link_table
written_none c = record {
  long = refl;
  linked = λ h i a b. eqb-true (get_or link_table (9 * h + (5 + i)) 0) (get_or (links h) i 0)
      (every_is (λ i. eqb (get_or link_table (9 * h + (5 + i)) 0) (get_or (links h) i 0)) 4
      (every_is (λ h. every (λ i. eqb (get_or link_table (9 * h + (5 + i)) 0) (get_or (links h) i 0)) 4) half_edges links_pass h a) i b);
  counted = λ h i a b. absurd (omega arith);
  near = λ h a. absurd (omega arith);
}

-- what is read
module _ {c : Cell} {t : List ℕ} (R : Routed c t) where
  abbrev w : Edges
  w = edges_of c

  module _ (h : ℕ) (l : h < half_edges) where
    pub low_at : get_or t (columns * h + low_column) 0 ≡ half_corner w (lower (rank_of h)) h
    unfolding front
    low_at = R.counted h low_column l (omega arith)

    pub high_at : get_or t (columns * h + high_column) 0 ≡ half_corner w (upper (rank_of h)) h
    unfolding front
    high_at = R.counted h 1 l (omega arith)

    pub count-at : get_or t (columns * h + count_column) 0 ≡ w.count (edge_of h)
    unfolding front
    count-at = R.counted h 2 l (omega arith)

    pub first_at : get_or t (columns * h + first_column) 0 ≡ base w (edge_of h)
    unfolding front
    first_at = R.counted h 3 l (omega arith)

    pub start_at : get_or t (columns * h + start_column) 0 ≡ start_of c (edge_of h)
    unfolding front
    start_at = R.counted h 4 l (omega arith)

    pub start_near : start_of c (edge_of h) < start_limit
    start_near = R.near (edge_of h) (edge_lt h l)

    pub low_next_at : get_or t (columns * h + round_low_column) 0 ≡ around (lower (rank_of h)) h
    unfolding links
    low_next_at = R.linked h 0 l (omega arith)

    pub high_next_at : get_or t (columns * h + round_high_column) 0 ≡ around (upper (rank_of h)) h
    unfolding links
    high_next_at = R.linked h 1 l (omega arith)

    pub twin_at : get_or t (columns * h + twin_column) 0 ≡ twin h
    unfolding links
    twin_at = R.linked h 2 l (omega arith)

    pub place-at : get_or t (columns * h + rank_column) 0 ≡ rank_of h
    unfolding links
    place-at = R.linked h 3 l (omega arith)

    -- all of an edge's crossings are among those of the cell
    pub fits_all : get_or t (columns * h + first_column) 0 + get_or t (columns * h + count_column) 0 ≤ most_in_cell
    fits_all = omega (arith, first_at, count-at, base_all w (edge_of h) (edge_lt h l), R.few)

    pub fits : (u : ℕ) → u < w.count (edge_of h) → number w (edge_of h) u < most_in_cell
    fits u k = omega (arith, base_all w (edge_of h) (edge_lt h l), R.few)

-- what holds of the entries of a list below k, and of v at k, holds below k + 1 after v is stored at k
pub stored : (f : ℕ → ℕ) (l : List ℕ) (k v : ℕ) → k < length l → ((i : ℕ) → i < k → get_or l i 0 ≡ f i) → v ≡ f k
    → (i : ℕ) → i < k + 1 → get_or (set l k v) i 0 ≡ f i
stored f l k v h before now i b =
    ⊎_elim (λ (q : i ≡ k). rw q (get_or-set_same l k v 0 h ∙ now))
    (λ (g : i < k). get_or-set_other l k i v 0 (λ e. omega arith) ∙ before i g) (eq-or-lt_of_le (omega arith))

-- the edges below k rise, f has the counts before each of them, and n those before k
pub record Rises (w : Edges) (k n : ℕ) (f : List ℕ) : Type 0 where
  pub sum : Sum w k n
  pub up : (i j : ℕ) → i < j → j < k → w.start i ≤ w.start j
  pub at : (i : ℕ) → i < k → get_or f i 0 ≡ pre w.count i
  pub long : length f ≡ 6

module _ {w : Edges} where
  pub rises_one : (m : ℕ) → (m ≡ w.count 0) × (m ≤ most_count) → Rises w 1 m (0 ∷ 0 ∷ 0 ∷ 0 ∷ 0 ∷ 0 ∷ [])
  unfolding pre total
  rises_one m e = record {
    sum = sum_first m e;
    up = λ i j a b. absurd (omega arith);
    at = λ i a. let z : i ≡ 0 = omega arith in rw z;
    long = refl;
  }

  pub rises_more : {k n : ℕ} {f : List ℕ} → Rises w k n f → 1 ≤ k → k < 6 → w.start (k - 1) ≤ w.start k → (m : ℕ) → (m ≡ w.count k) × (m ≤ most_count)
      → Rises w (k + 1) (n + m) (set f k n)
  rises_more {k} {n} {f} R p l h m e = record {
    sum = sum_more R.sum m e;
    up = λ i j a b. ⊎_elim (λ (q : j ≡ k). rw q (below i (omega arith))) (λ (g : j < k). R.up i j a g) (eq-or-lt_of_le (omega arith));
    at = stored (pre w.count) f k n (omega (arith, R.long)) R.at R.sum.is;
    long = length-set f k n ∙ R.long;
  }
    where
      below : (i : ℕ) → i < k → w.start i ≤ w.start k
      below i li =
          ⊎_elim (λ (q : i ≡ k - 1). rw q h) (λ (g : i < k - 1). omega (arith, R.up i (k - 1) g (omega arith), h)) (eq-or-lt_of_le (omega arith))

  pub rises_all : {k n : ℕ} {f : List ℕ} → Rises w k n f → 6 ≤ k → (i : ℕ) → i < 6 → get_or f i 0 ≡ base w i
  rises_all R l i li = R.at i (omega arith) ∙ sym (laid_same w (λ a b h lb. R.up a b h (omega arith)) i li)
