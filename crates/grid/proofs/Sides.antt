-- The edges of the list and of the cells by their keys: rows 6, 7 and 8.
use Rattle.std.specs.Prelude.{Some, None}
use Prim.Native.Nat.{ℕ, zero, suc, min, ◌%◌, ◌*◌, ◌+◌, ◌-◌, ◌/◌, ◌<◌, ◌≤◌}
use mathlib.Core.Path.{◌∙◌, ◌≡◌, ap, refl, sym}
use mathlib.Core.Logic.{⊎_elim}
use mathlib.Core.Bool.{Bool, false, not, true}
use mathlib.Core.List.{List}
use native.Mathlib.Decide.{dec_lt}
use native.Mathlib.Omega.{arith}
use lib.Dec.{eqb, leb, ltb}
use lib.ListN.{get_or, length}
use borrow.Author.Tests.{eq-eqb, eqb-false, eqb-true, le-leb, le-ltb, lt-leb, lt-ltb, ltb-false, ltb-true, ne_eqb, not-false}
use Rattle.counting.specs.Pick.{pick}
use Rattle.counting.specs.Search.{first, last, some}
use Rattle.counting.specs.work.Search.{found}
use Rattle.counting.proofs.Bools.{bool_same, holds_or, not_clash}
use Rattle.counting.proofs.Search.{first_at, first_below, first_blocks, first_ext, first_found, first_is, first_le, first_none, last_above, last_at, last_is, last_le, none_first, none_found, some_blocks, some_ext, some_first, some_found, some_last, some_none}
use Rattle.grid.specs.Grid.{Grid, cell_count, has_edge, high, is_edge, low}
use Rattle.grid.specs.Rows.{is_after, unlisted, unused}
use Rattle.grid.specs.work.Runs.{SidesPlaced}
use Rattle.grid.specs.work.Work.{OneEach, Usable, blank_in, found_at, listed_at}
use Rattle.counting.specs.work.Tables.{Table, same_key}
use Rattle.grid.specs.work.Shared.{edge_key, join}
use Rattle.counting.proofs.Pigeon.{pigeonhole}
use Rattle.grid.proofs.Laying.{joined_high, joined_low}

pub leb_not : (a b : ℕ) → leb a b ≡ not (ltb b a)
leb_not a b = go (ltb b a) refl
  where
    go : (x : Bool) → ltb b a ≡ x → leb a b ≡ not x
    go true e = lt-leb a b (ltb-true b a e)
    go false e = le-leb a b (ltb-false b a e)

join_ltb : (a b c d : ℕ) → b < 65536 → d < 65536 → ltb (join a b) (join c d) ≡ pick (eqb a c) (ltb b d) (ltb a c)
join_ltb a b c d h l = go (eqb a c) refl (ltb b d) refl (ltb a c) refl
  where
    go : (x : Bool) → eqb a c ≡ x → (y : Bool) → ltb b d ≡ y → (z : Bool) → ltb a c ≡ z → ltb (join a b) (join c d) ≡ pick x y z
    go true e true f z g = lt-ltb (join a b) (join c d) (omega (arith, eqb-true a c e, ltb-true b d f))
    go true e false f z g = le-ltb (join a b) (join c d) (omega (arith, eqb-true a c e, ltb-false b d f))
    go false e y f true g = lt-ltb (join a b) (join c d) (omega (arith, ltb-true a c g))
    go false e y f false g = le-ltb (join a b) (join c d) (omega (arith, ltb-false a c g, eqb-false a c e))

pub after_key : (edges : List ℕ) → ((i : ℕ) → get_or edges i 0 < 65536) → (d e : ℕ) → is_after edges d e ≡ ltb (edge_key edges d) (edge_key edges e)
unfolding is_after edge_key
after_key edges small d e = sym (join_ltb (low edges d) (high edges d) (low edges e) (high edges e) (small (2 * d + 1)) (small (2 * e + 1)))

-- one more than the first that passes; 0 where none does
pub found_zero : (t : ℕ → Bool) (m : ℕ) → not (some t m) ≡ eqb (found_at m (first t m)) 0
found_zero t m = go (some t m) refl
  where
    go : (x : Bool) → some t m ≡ x → not x ≡ eqb (found_at m (first t m)) 0
    go true e =
        let f = some_first t m e in
        rw (lt-ltb (first t m) m f) (sym (ne_eqb (suc (first t m)) 0 (λ q. omega arith)))
    go false e =
        let f = none_first t m (some_none t m e) in
        rw (f, le-ltb m m (omega arith))

pub found_more : (m x : ℕ) {p : ℕ} → p ≡ found_at m x → (p ≡ 0 → ⊥) → p - 1 ≡ x
found_more m x {p} e h = elim (dec_lt x m) [
  | yes l ↦
      let q : p ≡ suc x = e ∙ rw (lt-ltb x m l) in
      omega arith
  | no l ↦ absurd (h (e ∙ rw (le-ltb x m (omega arith))))
]

-- a number is 0 or not
not_pos : (x : ℕ) → not (ltb 0 x) ≡ eqb x 0
not_pos zero = refl
not_pos (suc x) = rw (lt-ltb 0 (suc x) (omega arith)) (sym (ne_eqb (suc x) 0 (λ q. omega arith)))

-- the places of the cells' edges in a list without two edges that have the same ends
module _ (G : Grid) (one : OneEach G) where
  abbrev m : ℕ
  m = length G.counts

  abbrev N : ℕ
  N = 6 * cell_count G.cells

  one_is : (c k d e : ℕ) → d < m → e < m → is_edge G c k d ≡ true → is_edge G c k e ≡ true → d ≡ e
  unfolding is_edge
  one_is c k d e h l p q =
      one d e h l (joined_low G.edges _ _ d p ∙ sym (joined_low G.edges _ _ e q)) (joined_high G.edges _ _ d p ∙ sym (joined_high G.edges _ _ e q))

  -- the only edge is the first and the last
  pub listed_last : (c k : ℕ) → found_at m (first (is_edge G c k) m) ≡ last (is_edge G c k) m
  listed_last c k = go (last (is_edge G c k) m) refl
    where
      go : (x : ℕ) → last (is_edge G c k) m ≡ x → found_at m (first (is_edge G c k) m) ≡ x
      go zero e =
          let f = none_first (is_edge G c k) m (λ i l. last_above (is_edge G c k) m i (omega (arith, e)) l) in
          rw (f, le-ltb m m (omega arith))
      go (suc x) e =
          let b = last_le (is_edge G c k) m in
          let z : last (is_edge G c k) m - 1 ≡ x = omega arith in
          let t : is_edge G c k x ≡ true = rw z at (last_is (is_edge G c k) m (omega arith)) in
          let l = some_first (is_edge G c k) m (some_found (is_edge G c k) m x (omega arith) t) in
          let q = one_is c k (first (is_edge G c k) m) x l (omega arith) (first_is (is_edge G c k) m l) t in
          rw (q, lt-ltb x m (omega arith))

  pub is_place : (c k e : ℕ) → e < m → is_edge G c k e ≡ eqb (last (is_edge G c k) m) (e + 1)
  is_place c k e h = bool_same (is_edge G c k e) (eqb (last (is_edge G c k) m) (e + 1))
      (λ p. eq-eqb _ _ (last_at (is_edge G c k) m e h p (λ i a b. not_clash (is_edge G c k i) (λ q. (let z = one_is c k i e b h q p in omega arith)))))
      (λ q. (let a = eqb-true (last (is_edge G c k) m) (e + 1) q in
      let z : last (is_edge G c k) m - 1 ≡ e = omega arith in
      rw z at (last_is (is_edge G c k) m (omega arith))))

  module _ (sides : List ℕ) (w : SidesPlaced G.cells G.edges (length G.counts) sides) where
    side-at : (c k : ℕ) → c < cell_count G.cells → k < 6 → get_or sides (6 * c + k) 0 ≡ min (last (is_edge G c k) m) (N + 1)
    unfolding is_edge
    side-at c k h l = w.at c k h l

    -- an edge by its number
    pub is_side : (c k e : ℕ) → c < cell_count G.cells → k < 6 → e < m → e < N → is_edge G c k e ≡ eqb (get_or sides (6 * c + k) 0) (e + 1)
    is_side c k e h l a b = is_place c k e a ∙ rw (side-at c k h l)
        (bool_same (eqb (last (is_edge G c k) m) (e + 1)) (eqb (min (last (is_edge G c k) m) (N + 1)) (e + 1))
        (λ q. (let z = eqb-true (last (is_edge G c k) m) (e + 1) q in eq-eqb (min (last (is_edge G c k) m) (N + 1)) (e + 1) (omega arith)))
        (λ q. (let z = eqb-true (min (last (is_edge G c k) m) (N + 1)) (e + 1) q in eq-eqb (last (is_edge G c k) m) (e + 1) (omega arith))))

    -- row 7: an edge that is not listed has the entry 0
    listed_zero : (c k : ℕ) → c < cell_count G.cells → k < 6 → not (some (is_edge G c k) m) ≡ eqb (get_or sides (6 * c + k) 0) 0
    listed_zero c k h l = rw (side-at c k h l, some_last (is_edge G c k) m)
        (not_pos (last (is_edge G c k) m)
        ∙ bool_same (eqb (last (is_edge G c k) m) 0) (eqb (min (last (is_edge G c k) m) (N + 1)) 0)
        (λ q. (let z = eqb-true (last (is_edge G c k) m) 0 q in eq-eqb (min (last (is_edge G c k) m) (N + 1)) 0 (omega arith)))
        (λ q. (let z = eqb-true (min (last (is_edge G c k) m) (N + 1)) 0 q in eq-eqb (last (is_edge G c k) m) 0 (omega arith))))

    pub unlisted_blank : first (unlisted G) (cell_count G.cells) ≡ first (blank_in sides) (cell_count G.cells)
    unfolding unlisted blank_in
    unlisted_blank =
        first_ext (unlisted G) (blank_in sides) (cell_count G.cells)
        (λ c h. some_ext (λ k. not (some (is_edge G c k) m)) (λ k. eqb (get_or sides (6 * c + k) 0) 0) 6 (λ k l. listed_zero c k h l))

    pub placed_below : (j : ℕ) → j < N → get_or sides j 0 < N + 2
    placed_below j h =
        let q : 6 * (j / 6) + j % 6 ≡ j = omega arith in
        let z = side-at (j / 6) (j % 6) (omega arith) (omega arith) in
        omega (arith, rw q at z)

    -- where the list is no longer than the cells have edges, the entries are the places
    pub listed_table : N ≤ length sides → m ≤ N → Table (listed_at G) N sides
    unfolding listed_at
    listed_table room few = record {
      room = room;
      at = λ j h.
          let q : 6 * (j / 6) + j % 6 ≡ j = omega arith in
          let z = side-at (j / 6) (j % 6) (omega arith) (omega arith) in
          let b = last_le (is_edge G (j / 6) (j % 6)) m in
          let y : min (last (is_edge G (j / 6) (j % 6)) m) (N + 1) ≡ last (is_edge G (j / 6) (j % 6)) m = omega arith in
          (rw q at z) ∙ y ∙ sym (listed_last (j / 6) (j % 6));
    }

    -- row 8: the edge has a place
    pub used_some : (e : ℕ) → e < m → e < N → some (has_edge G e) (cell_count G.cells) ≡ some (same_key sides (e + 1)) N
    unfolding has_edge same_key
    used_some e a b =
        some_ext (λ c. some (λ k. is_edge G c k e) 6) (λ c. some (λ k. eqb (get_or sides (6 * c + k) 0) (e + 1)) 6) (cell_count G.cells)
        (λ c l. some_ext (λ k. is_edge G c k e) (λ k. eqb (get_or sides (6 * c + k) 0) (e + 1)) 6 (λ k h. is_side c k e l h a b))
        ∙ sym (some_blocks (λ j. eqb (get_or sides j 0) (e + 1)) 6 (cell_count G.cells))

    pub unused_top : (e : ℕ) → e < m → e < N → unused G e ≡ eqb (last (same_key sides (e + 1)) N) 0
    unfolding unused
    unused_top e a b = rw (used_some e a b, some_last (same_key sides (e + 1)) N) (not_pos (last (same_key sides (e + 1)) N))

  -- the last place of an edge that a cell has
  place : ℕ → ℕ
  place e = last (λ j. is_edge G (j / 6) (j % 6) e) N - 1

  place_found : (e : ℕ) → unused G e ≡ false → 0 < last (λ j. is_edge G (j / 6) (j % 6) e) N
  unfolding unused has_edge
  place_found e u = ltb-true 0 _ (sym (some_last (λ j. is_edge G (j / 6) (j % 6) e) N) ∙ blocks ∙ not-false (some (has_edge G e) (cell_count G.cells)) u)
    where
      blocks : some (λ j. is_edge G (j / 6) (j % 6) e) N ≡ some (λ c. some (λ k. is_edge G c k e) 6) (cell_count G.cells)
      blocks = some_blocks (λ j. is_edge G (j / 6) (j % 6) e) 6 (cell_count G.cells)
          ∙ some_ext (λ c. some (λ k. is_edge G ((6 * c + k) / 6) ((6 * c + k) % 6) e) 6) (λ c. some (λ k. is_edge G c k e) 6) (cell_count G.cells)
          (λ c h. some_ext (λ k. is_edge G ((6 * c + k) / 6) ((6 * c + k) % 6) e) (λ k. is_edge G c k e) 6
          (λ k l. (let a : (6 * c + k) / 6 ≡ c = omega arith in let b : (6 * c + k) % 6 ≡ k = omega arith in rw (a, b))))

  -- of one edge more than the cells have, one is in no cell
  too_long : N < m → ((e : ℕ) → e ≤ N → unused G e ≡ false) → ⊥
  unfolding place
  too_long long all = pigeonhole N place
      (λ e h. (let p = place_found e (all e h) in omega (arith, last_le (λ j. is_edge G (j / 6) (j % 6) e) N)))
      (λ d e l h q.
      let p = last_is (λ j. is_edge G (j / 6) (j % 6) d) N (place_found d (all d (omega arith))) in
      let r = last_is (λ j. is_edge G (j / 6) (j % 6) e) N (place_found e (all e h)) in
      let z = one_is (place e / 6) (place e % 6) d e (omega arith) (omega arith) (rw q at p) r in
      omega arith)

  -- what `row_8` answers
  pub unused_first : first (unused G) (min m N) ≡ first (unused G) m
  unused_first = elim (dec_lt N m) [
    | no h ↦ let e : min m N ≡ m = omega arith in rw e
    | yes h ↦
        let e : min m N ≡ N = omega arith in
        rw e (elim (dec_lt (first (unused G) N) N) [
          | yes l ↦ sym (first_at (unused G) m (first (unused G) N) (omega arith) (first_is (unused G) N l) (λ j k. first_below (unused G) N j k))
          | no l ↦
              let b = first_le (unused G) N in
              let q : first (unused G) N ≡ N = omega arith in
              let none = first_none (unused G) N (omega arith) in
              q ∙ sym (first_at (unused G) m N h
              (⊎_elim (λ u. u) (λ (u : unused G N ≡ false). absurd (too_long h (λ i k. elim (dec_lt i N) [ yes y ↦ none i y | no y ↦ (let z : i ≡ N = omega arith in rw z u) ]))) (holds_or (unused G N))) none)
        ])
  ]

-- what `row_8` answers: where the first M edges are in some cell, M being the lesser of the number of edges and that of the cells' edges, none but edge M
-- can be in none
module _ {G : Grid} {sides top : List ℕ} (U : Usable G sides top) (M : ℕ) (em : M ≡ min (length G.counts) (6 * cell_count G.cells)) where
  row_8_told : first (λ e. eqb (get_or top (e + 1) 0) 0) M ≡ first (unused G) (length G.counts)
  row_8_told =
      first_ext (λ e. eqb (get_or top (e + 1) 0) 0) (unused G) M
      (λ e h. (let b : e < length G.counts = omega arith in let d : e < 6 * cell_count G.cells = omega arith in
      ap (λ (x : ℕ). eqb x 0) (U.tops (e + 1) (omega arith)) ∙ sym (unused_top G U.one sides U.placed e b d)))
      ∙ ap (first (unused G)) em ∙ unused_first G U.one

  pub row_8_hit : (e : ℕ) → e < M → get_or top (e + 1) 0 ≡ 0 → ((i : ℕ) → i < e → eqb (get_or top (i + 1) 0) 0 ≡ false) → Some e ≡ found (unused G) (length G.counts)
  row_8_hit e h z below =
      let q = sym (first_at (λ e. eqb (get_or top (e + 1) 0) 0) M e h (eq-eqb _ _ z) below) ∙ row_8_told in
      ap Some q ∙ first_found _ _ (omega arith)

  module _ (below : (i : ℕ) → i < M → eqb (get_or top (i + 1) 0) 0 ≡ false) where
    all_used : M ≡ first (unused G) (length G.counts)
    all_used = sym (none_first (λ e. eqb (get_or top (e + 1) 0) 0) M below) ∙ row_8_told

    pub row_8_last : M < length G.counts → Some M ≡ found (unused G) (length G.counts)
    row_8_last h = ap Some all_used ∙ first_found _ _ (omega (arith, all_used))

    pub row_8_none : length G.counts ≤ M → None ≡ found (unused G) (length G.counts)
    row_8_none h = none_found _ _ (omega (arith, all_used))

-- what `row_7` answers
pub blank_first : (sides : List ℕ) (n : ℕ) → first (λ j. eqb (get_or sides j 0) 0) (6 * n) / 6 ≡ first (blank_in sides) n
unfolding blank_in
blank_first sides n = first_blocks (λ j. eqb (get_or sides j 0) 0) 6 n (omega arith)
