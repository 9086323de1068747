-- The rows 1 to 8, 18 and 10 have no fault exactly where the grid is sound; what follows for the numbers of edges.
use Prim.Native.Nat.{ℕ, ◌%◌, ◌*◌, ◌+◌, ◌/◌, ◌<◌, ◌≤◌}
use mathlib.Core.Path.{◌∙◌, ◌≡◌, ap, sym}
use mathlib.Core.Logic.{◌≢◌, inl, inr, ⊎_elim}
use mathlib.Core.Bool.{Bool, false, not, true}
use mathlib.Core.List.{List}
use native.Mathlib.Decide.{dec_lt}
use native.Mathlib.Omega.{arith}
use lib.Dec.{eqb, leb, ltb}
use lib.ListN.{length}
use borrow.Author.Tests.{eq-eqb, eqb-true, le-ltb, lt-leb, ltb-false, ne_eqb, not-false}
use Rattle.counting.specs.Search.{count, first, some}
use Rattle.counting.proofs.Below.{trichotomy}
use Rattle.counting.proofs.Bools.{and_left, and_right, and_true, clash, not_clash, or_false}
use Rattle.counting.proofs.Pigeon.{pigeonhole}
use Rattle.counting.proofs.Search.{count_two_of, every_is, first_is, is_every, none_some, some_first, some_found, some_is, some_none, two_counted}
use Rattle.slots.specs.Limits.{most_count, highest_node, most_cells, most_crossings}
use Rattle.slots.specs.Slots.{hi, lo}
use Rattle.slots.proofs.Slots.{edge_order, two_slots}
use Rattle.grid.specs.Grid.{Before, Grid, cell_count, count_of, crossings, edge_number, has_edge, has_face, high, is_edge, joins, low, node, same_face}
use Rattle.grid.specs.claims.Accepted.{EdgeIs, EdgeNumbers, Sound, SameFace}
use Rattle.grid.specs.Rows.{bad_cell, bad_count, bad_edge, bad_length, bad_lists, repeats, same_cell, crowded, too_many, unlisted, unused}
use Rattle.grid.proofs.Answers.{length_fine}
use Rattle.grid.proofs.Sorted.{before_not, before_same, clear_edge, edge-ends, same-edge, sorted_edges}
use Rattle.grid.proofs.Packed.{cell_fine, nodes_rise, same_true, true_same}
use Rattle.grid.proofs.Starts.{fine_lists, lists_fine}

-- the same face: either way round, and from one to the next
pub flip : (cells : List ℕ) (a r b s : ℕ) → SameFace cells a r b s → SameFace cells b s a r
flip cells a r b s h i l = sym (h i l)

via : (cells : List ℕ) (a r b s c t : ℕ) → SameFace cells a r b s → SameFace cells b s c t → SameFace cells a r c t
via cells a r b s c t h k i l = h i l ∙ k i l

-- the ends of two edges of a cell whose nodes rise
pub ends_before : (f : ℕ → ℕ) → ((a b : ℕ) → a < b → b < 4 → f a < f b) → (k l : ℕ) → k < l → l < 6 → Before (f (lo k)) (f (hi k)) (f (lo l)) (f (hi l))
ends_before f rises k l h ll =
    let t = two_slots l ll in
    ⊎_elim (λ (o : lo k < lo l). inl (rises (lo k) (lo l) o (omega (arith, t.rising, t.within))))
    (λ (o : (lo k ≡ lo l) × (hi k < hi l)). inr (ap f o.0, rises (hi k) (hi l) o.1 t.within)) (edge_order k l h ll)

-- an edge of a cell, as a test and as equations
module _ (G : Grid) (c k e : ℕ) where
  pub edge_true : is_edge G c k e ≡ true → EdgeIs G c k e
  unfolding is_edge joins
  edge_true h = record {
    low_is = eqb-true _ _ (and_left (eqb (low G.edges e) (node G.cells c (lo k))) (eqb (high G.edges e) (node G.cells c (hi k))) h);
    high_is = eqb-true _ _ (and_right (eqb (low G.edges e) (node G.cells c (lo k))) (eqb (high G.edges e) (node G.cells c (hi k))) h);
  }

  pub true_edge : EdgeIs G c k e → is_edge G c k e ≡ true
  unfolding is_edge joins
  true_edge h =
      and_true (eqb (low G.edges e) (node G.cells c (lo k))) (eqb (high G.edges e) (node G.cells c (hi k)))
      (eq-eqb (low G.edges e) (node G.cells c (lo k)) h.low_is) (eq-eqb (high G.edges e) (node G.cells c (hi k)) h.high_is)

-- no face is in three cells
module _ (cells : List ℕ) (clear : (c : ℕ) → c < cell_count cells → crowded cells c ≡ false) where
  no_three : (x y z u v w : ℕ) → x < y → y < z → z < cell_count cells → u < 4 → v < 4 → w < 4 → SameFace cells x u z w → SameFace cells y v z w → ⊥
  unfolding crowded has_face
  no_three x y z u v w a b h lu lv lw f g =
      let k = ltb-false 1 (count (has_face cells z w) z) (some_none (λ s. ltb 1 (count (has_face cells z s) z)) 4 (clear z h) w lw) in
      omega (
        arith,
        count_two_of (has_face cells z w) z x y a b
            (some_found (λ t. same_face cells x t z w) 4 u lu (true_same cells x u z w f)) (some_found (λ t. same_face cells y t z w) 4 v lv (true_same cells y v z w g)),
      )

  no_third : (a b c r s t : ℕ) → a < cell_count cells → b < cell_count cells → c < cell_count cells → r < 4 → s < 4 → t < 4
      → SameFace cells a r b s → SameFace cells a r c t → a ≢ b → a ≢ c → b ≢ c → ⊥
  no_third a b c r s t la lb lc lr ls lt f g ab ac bc =
      let bc-face = via cells b s a r c t (flip cells a r b s f) g in
      let cb-face = flip cells b s c t bc-face in
      trichotomy b c
      (λ l. trichotomy a c (λ k. trichotomy a b (λ j. no_three a b c r s t j l lc lr ls lt g bc-face) (λ j. no_three b a c s r t j k lc ls lr lt bc-face g) (λ e. ab e))
      (λ k. no_three b c a s t r l k la ls lt lr (flip cells a r b s f) (flip cells a r c t g)) (λ e. ac e))
      (λ l. trichotomy a b (λ k. trichotomy a c (λ j. no_three a c b r t s j l lb lr lt ls f cb-face) (λ j. no_three c a b t r s j k lb lt lr ls cb-face f) (λ e. ac e))
      (λ k. no_three c b a t s r l k la lt ls lr (flip cells a r c t g) (flip cells a r b s f)) (λ e. ab e))
      (λ e. bc e)

-- the rows 1 to 8, 18 and 10 without a fault
pub record Faultless (G : Grid) : Type 0 where
  pub row_1 : bad_length G.cells ≡ false
  pub row_2 : bad_lists G.edges G.counts G.starts ≡ false
  pub row_3 : (c : ℕ) → c < cell_count G.cells → bad_cell G.cells c ≡ false
  pub row_4 : (c : ℕ) → c < cell_count G.cells → repeats G.cells c ≡ false
  pub row_5 : (c : ℕ) → c < cell_count G.cells → crowded G.cells c ≡ false
  pub row_6 : (e : ℕ) → e < length G.counts → bad_edge G.edges e ≡ false
  pub row_18 : (e : ℕ) → e < length G.counts → bad_count G.counts e ≡ false
  pub row_7 : (c : ℕ) → c < cell_count G.cells → unlisted G c ≡ false
  pub row_8 : (e : ℕ) → e < length G.counts → unused G e ≡ false
  pub row_10 : too_many G.counts ≡ false

module _ (G : Grid) (F : Faultless G) where
  lists : (length G.cells ≡ 4 * cell_count G.cells) × (0 < cell_count G.cells) × (cell_count G.cells ≤ most_cells)
  lists = length_fine G.cells F.row_1

  earlier_cell : (d c : ℕ) → d < c → c < cell_count G.cells → ((i : ℕ) → i < 4 → node G.cells d i ≡ node G.cells c i) → ⊥
  unfolding repeats same_cell
  earlier_cell d c l h same =
      clash (is_every (λ i. eqb (node G.cells d i) (node G.cells c i)) 4 (λ i k. eq-eqb (node G.cells d i) (node G.cells c i) (same i k)))
      (some_none (λ d. same_cell G.cells d c) c (F.row_4 c h) d l)

  distinct_cells : (c d : ℕ) → c < cell_count G.cells → d < cell_count G.cells → ((i : ℕ) → i < 4 → node G.cells c i ≡ node G.cells d i) → c ≡ d
  distinct_cells c d lc ld same =
      trichotomy c d (λ l. absurd (earlier_cell c d l ld same)) (λ l. absurd (earlier_cell d c l lc (λ i k. sym (same i k)))) (λ e. e)

  pub sound : Sound G
  unfolding bad_count unlisted unused has_edge too_many
  sound = record {
    fours = lists.0;
    some_cell = lists.1;
    few_cells = lists.2;
    pairs = (lists_fine G.edges G.counts G.starts F.row_2).0;
    starts_long = (lists_fine G.edges G.counts G.starts F.row_2).1;
    starts_are = (lists_fine G.edges G.counts G.starts F.row_2).2;
    within = λ c i h l. (cell_fine G.cells c (F.row_3 c h)).0 i l;
    increasing = λ c i j h. nodes_rise G.cells c (cell_fine G.cells c (F.row_3 c h)).1 i j;
    distinct = distinct_cells;
    third = no_third G.cells F.row_5;
    ends = edge-ends G.edges (length G.counts) F.row_6;
    sorted = sorted_edges G.edges (length G.counts) F.row_6;
    counts_within = λ e h. ltb-false most_count (count_of G.counts e) (F.row_18 e h);
    listed = λ c k h l.
        let w = some_is (is_edge G c k) (length G.counts) (not-false _ (some_none (λ k. not (some (is_edge G c k) (length G.counts))) 6 (F.row_7 c h) k l)) in
        (w.0, w.1, edge_true G c k w.0 w.2);
    used = λ e h.
        let w = some_is (has_edge G e) (cell_count G.cells) (not-false _ (F.row_8 e h)) in
        let v = some_is (λ k. is_edge G w.0 k e) 6 w.2 in
        (w.0, v.0, w.1, v.1, edge_true G w.0 v.0 e v.2);
    few_crossings = ltb-false most_crossings (crossings G.counts) F.row_10;
  }

module _ (G : Grid) (S : Sound G) where
  number : ℕ → ℕ → ℕ
  number = edge_number G

  number_lt : (c k : ℕ) → c < cell_count G.cells → k < 6 → number c k < length G.counts
  unfolding number edge_number
  number_lt c k h l =
      let (e, le, is) = S.listed c k h l in
      some_first (is_edge G c k) (length G.counts) (some_found (is_edge G c k) (length G.counts) e le (true_edge G c k e is))

  number_is : (c k : ℕ) → c < cell_count G.cells → k < 6 → EdgeIs G c k (number c k)
  unfolding number edge_number
  number_is c k h l = edge_true G c k (first (is_edge G c k) (length G.counts)) (first_is (is_edge G c k) (length G.counts) (number_lt c k h l))

  -- an edge with the ends of a cell's edge is that edge
  number_only : (c k e : ℕ) → c < cell_count G.cells → k < 6 → e < length G.counts → EdgeIs G c k e → number c k ≡ e
  number_only c k e h l le is =
      let n = number_is c k h l in
      same-edge G.edges (length G.counts) S.sorted (number c k) e (number_lt c k h l) le (n.low_is ∙ sym is.low_is) (n.high_is ∙ sym is.high_is)

  edge_used : (e : ℕ) → e < length G.counts → (c : ℕ) × (k : ℕ) × (c < cell_count G.cells) × (k < 6) × (number c k ≡ e)
  edge_used e h = let (c, k, lc, lk, is) = S.used e h in (c, k, lc, lk, number_only c k e lc lk h is)

  -- each edge has a place of its own among the cells' edges
  holds_edge : ℕ → ℕ → Bool
  holds_edge e j = eqb (number (j / 6) (j % 6)) e

  place_of : ℕ → ℕ
  place_of e = first (holds_edge e) (6 * cell_count G.cells)

  place_lt : (e : ℕ) → e < length G.counts → place_of e < 6 * cell_count G.cells
  unfolding place_of holds_edge
  place_lt e h =
      let (c, k, lc, lk, q) = edge_used e h in
      let a : (6 * c + k) / 6 ≡ c = omega arith in
      let b : (6 * c + k) % 6 ≡ k = omega arith in
      some_first (holds_edge e) (6 * cell_count G.cells)
      (some_found (holds_edge e) (6 * cell_count G.cells) (6 * c + k) (omega arith) (rw (a, b) (eq-eqb (number c k) e q)))

  place_edge : (e : ℕ) → e < length G.counts → number (place_of e / 6) (place_of e % 6) ≡ e
  unfolding place_of holds_edge
  place_edge e h = eqb-true _ e (first_is (holds_edge e) (6 * cell_count G.cells) (place_lt e h))

  edges_few : length G.counts ≤ 6 * cell_count G.cells
  edges_few = elim (dec_lt (6 * cell_count G.cells) (length G.counts)) [
    | yes l ↦ absurd (pigeonhole (6 * cell_count G.cells) place_of (λ i h. place_lt i (omega arith))
        (λ i j a h e. omega (arith, place_edge i (omega arith), place_edge j (omega arith), ap (λ x. number (x / 6) (x % 6)) e)))
    | no l ↦ omega arith
  ]

  number_rises : (c k l : ℕ) → c < cell_count G.cells → k < l → l < 6 → number c k < number c l
  number_rises c k l h kl ll =
      trichotomy (number c k) (number c l) (λ g. g)
      (λ g. absurd (before_not (node G.cells c (lo k)) (node G.cells c (hi k)) (node G.cells c (lo l)) (node G.cells c (hi l)) order
      (rw (← a.low_is, ← a.high_is, ← b.low_is, ← b.high_is) (S.sorted (number c l) (number c k) g (number_lt c k h lk)))))
      (λ g. absurd (before_same (node G.cells c (lo k)) (node G.cells c (hi k)) (node G.cells c (lo l)) (node G.cells c (hi l))
      (sym a.low_is ∙ ap (low G.edges) g ∙ b.low_is) (sym a.high_is ∙ ap (high G.edges) g ∙ b.high_is) order))
    where
      lk : k < 6
      lk = omega arith

      a : EdgeIs G c k (number c k)
      a = number_is c k h lk

      b : EdgeIs G c l (number c l)
      b = number_is c l h ll

      order : Before (node G.cells c (lo k)) (node G.cells c (hi k)) (node G.cells c (lo l)) (node G.cells c (hi l))
      order = ends_before (node G.cells c) (λ a b. S.increasing c a b h) k l kl ll

  pub edge_numbers : EdgeNumbers G
  unfolding number
  edge_numbers = record {
    listed = number_lt;
    is = number_is;
    only = number_only;
    one_edge = same-edge G.edges (length G.counts) S.sorted;
    used = edge_used;
    few = edges_few;
    rising = number_rises;
  }

  -- THE OTHER WAY: a sound grid has no fault of these rows

  clear_third : (c : ℕ) → c < cell_count G.cells → crowded G.cells c ≡ false
  unfolding crowded has_face
  clear_third c h = none_some (λ s. ltb 1 (count (has_face G.cells c s) c)) 4 (λ s l. not_clash (ltb 1 (count (has_face G.cells c s) c)) (two s l))
    where
      two : (s : ℕ) → s < 4 → ltb 1 (count (has_face G.cells c s) c) ≡ true → ⊥
      two s l e =
          let (i, j, ij, jc, p, q) = two_counted (has_face G.cells c s) c e in
          let u = some_is (λ t. same_face G.cells i t c s) 4 p in
          let v = some_is (λ t. same_face G.cells j t c s) 4 q in
          S.third c i j s u.0 v.0 h (omega arith) (omega arith) l u.1 v.1 (flip G.cells i u.0 c s (same_true G.cells i u.0 c s u.2))
          (flip G.cells j v.0 c s (same_true G.cells j v.0 c s v.2)) (λ f. omega arith) (λ f. omega arith) (λ f. omega arith)

  pub faultless : Faultless G
  unfolding bad_length bad_cell repeats same_cell bad_count unlisted unused has_edge too_many
  faultless = record {
    row_1 = rw (eq-eqb (length G.cells % 4) 0 (omega (arith, S.fours)), ne_eqb (length G.cells) 0 (λ e. omega (arith, S.some_cell, S.fours)), le-ltb most_cells (cell_count G.cells) S.few_cells);
    row_2 = fine_lists G.edges G.counts G.starts S.pairs S.starts_long S.starts_are;
    row_3 = λ c h. or_false (some (λ i. ltb highest_node (node G.cells c i)) 4) (some (λ i. leb (node G.cells c (i + 1)) (node G.cells c i)) 3)
        (none_some (λ i. ltb highest_node (node G.cells c i)) 4 (λ i l. le-ltb highest_node (node G.cells c i) (S.within c i h l)))
        (none_some (λ i. leb (node G.cells c (i + 1)) (node G.cells c i)) 3 (λ i l. lt-leb (node G.cells c (i + 1)) (node G.cells c i) (S.increasing c i (i + 1) h (omega arith) (omega arith))));
    row_4 = λ c h. none_some (λ d. same_cell G.cells d c) c (λ d l. not_clash (same_cell G.cells d c) (λ e.
        (let f = S.distinct d c (omega arith) h (λ i k. eqb-true _ _ (every_is (λ i. eqb (node G.cells d i) (node G.cells c i)) 4 e i k)) in omega arith)));
    row_5 = clear_third;
    row_6 = clear_edge G.edges (length G.counts) S.ends S.sorted;
    row_18 = λ e h. le-ltb most_count (count_of G.counts e) (S.counts_within e h);
    row_7 = λ c h. none_some (λ k. not (some (is_edge G c k) (length G.counts))) 6 (λ k l.
        (let (e, le, is) = S.listed c k h l in ap not (some_found (is_edge G c k) (length G.counts) e le (true_edge G c k e is))));
    row_8 = λ e h.
        let (c, k, lc, lk, is) = S.used e h in
        ap not (some_found (has_edge G e) (cell_count G.cells) c lc (some_found (λ k. is_edge G c k e) 6 k lk (true_edge G c k e is)));
    row_10 = le-ltb most_crossings (crossings G.counts) S.few_crossings;
  }
