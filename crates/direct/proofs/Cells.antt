-- Cells written one after the other, with a walk or without.
use Prim.Native.Nat.{ℕ, zero, suc, ◌+◌, ◌-◌, ◌*◌, ◌%◌, ◌≤◌, ◌<◌, min}
use mathlib.Core.Path.{◌≡◌, refl, sym, ap, ◌∙◌, subst}
use mathlib.Core.Bool.{true}
use mathlib.Core.List.{List, [], ◌∷◌}
use native.Mathlib.Omega.{arith}
use native.Mathlib.Nat.{add-zero}
use lib.Dec.{leb}
use lib.ListN.{length, get_or}
use borrow.Author.Tests.{leb-true}
use Rattle.counting.specs.Lists.{gather, total, values, pre}
use Rattle.counting.specs.work.Stored.{Stored}
use Rattle.counting.specs.Stored.{stored_in}
use Rattle.counting.specs.claims.Lists.{next_in}
use Rattle.counting.proofs.Lists.{length_singles, values_at, values_ext}
use Rattle.counting.proofs.Pack.{pre_most}
use Rattle.counting.proofs.Range.{total_ext}
use Rattle.counting.proofs.Stored.{stored_room, stored_not, stored_nothing}
use Rattle.slots.specs.Slots.{edge_between}
use Rattle.slots.specs.Limits.{most_cells, most_count}
use Rattle.cell.specs.declared.Cell.{Cell}
use Rattle.cell.specs.declared.Triangle.{Triangle}
use Rattle.cell.specs.Of.{count_of, edges_of}
use Rattle.cell.specs.work.Route.{limited}
use Rattle.cell.specs.Cell.{crossings}
use Rattle.cell.specs.work.Limits.{most_in_cell}
use Rattle.cell.specs.Nodes.{joining}
use Rattle.cell.specs.Level.{by_edge, is_level_cell}
use Rattle.cell.specs.Triangles.{cell_triangles}
use Rattle.cell.specs.Words.{word_count, all_words}
use Rattle.cell.specs.work.Fits.{next_at, area_then, next_after, area_after}
use Rattle.cell.specs.claims.Table.{side, table_cell, taken_counts}
use Rattle.cell.proofs.Fits.{Put, put_more}
use Rattle.cell.proofs.Storing.{length_all}
use Rattle.cell.proofs.Taken.{cell_few}
use Rattle.cell.proofs.Using.{table_near, limited_same}
use Rattle.cell.proofs.Values.{taken_is}
use Rattle.booking.specs.Booking.{median, beside, corner_triangles, least_corner, left_between, larger, smaller}
use Rattle.booking.specs.claims.Booking.{booked}
use Rattle.booking.proofs.Claims.{triangles_booked}
use Rattle.direct.specs.claims.Direct.{Plain}
use Rattle.direct.specs.work.Rows.{AreOwn, PlainNumbers, Ready}
use Rattle.direct.specs.work.Cells.{Came}
use Rattle.direct.proofs.Families.{smaller_is}

-- how many triangles a cell of these numbers has
module _ (l own : List ℕ) (O : AreOwn (by_edge l) own) where
  owns : total (by_edge own) 4 0 ≡ corner_triangles (by_edge l)
  unfolding corner_triangles
  owns = total_ext (by_edge own) (least_corner (by_edge l)) 4 0 (λ p _ h. O p (omega arith))

  larger_is : {x y z : ℕ} → x ≡ get_or l 0 0 - get_or own 0 0 - get_or own 1 0 → y ≡ get_or l 1 0 - get_or own 0 0 - get_or own 2 0 → z ≡ get_or l 2 0 - get_or own 0 0 - get_or own 3 0
      → median x y z ≡ larger (by_edge l)
  unfolding larger left_between joining edge_between
  larger_is p q r = rw (p, q, r, O 0 (omega arith), O 1 (omega arith), O 2 (omega arith), O 3 (omega arith)) refl

  pub plain_numbers : is_level_cell (by_edge l) ≡ true → {x y z m k d n : ℕ} → x ≡ get_or l 0 0 - get_or own 0 0 - get_or own 1 0 → y ≡ get_or l 1 0 - get_or own 0 0 - get_or own 2 0
      → z ≡ get_or l 2 0 - get_or own 0 0 - get_or own 3 0 → m ≡ min x y → k ≡ min m z → k ≡ 0 → d ≡ median x y z → n ≡ total (by_edge own) 4 0 + 2 * d
      → PlainNumbers (by_edge l) own n
  unfolding booked beside
  plain_numbers K {x} {y} {z} {m} {k} {d} {n} p q r s t e f g =
      let none : smaller (by_edge l) ≡ 0 = sym (smaller_is l own O p q r s t) ∙ e in
      record {
        plain = record { level = K; none = none };
        own_are = O;
        triangles_are = g ∙ rw (owns, f, larger_is p q r, none) refl;
      }

-- one cell, from index `at` on
module _ (c : Cell) where
  pub few_triangles : {n : ℕ} → n ≡ length (cell_triangles c) → n ≤ most_in_cell
  few_triangles e = omega (arith, e, cell_few c, pre_most (count_of c) most_count (λ k. omega arith) 6)

  module _ (was : List ℕ) (at : ℕ) {n : ℕ} (e : n ≡ length (cell_triangles c)) where
    pub has_place : leb (at + word_count * n) (length was) ≡ true → at + length (all_words (cell_triangles c)) ≤ length was
    has_place h = omega (arith, leb-true (at + word_count * n) (length was) h, e, length_all (cell_triangles c))

    pub placed : {is : List ℕ} {r : ℕ} → leb (at + word_count * n) (length was) ≡ true → Stored was at (all_words (cell_triangles c)) is r → (r ≡ next_at c was at) × (is ≡ area_then c was at)
    unfolding next_at area_then
    placed h S =
        let R = stored_room was at (all_words (cell_triangles c)) (has_place h) in
        (S.after ∙ sym R.after, S.area ∙ sym R.area)

    pub unplaced : length was < at + word_count * n → (at ≡ next_at c was at) × (was ≡ area_then c was at)
    unfolding next_at area_then
    unplaced h = let N = stored_not was at (all_words (cell_triangles c)) (omega (arith, e, length_all (cell_triangles c))) in (N.1, N.0)

  -- one without triangles
  pub nothing_put : length (cell_triangles c) ≡ 0 → (was : List ℕ) (at : ℕ) → (at ≡ next_at c was at) × (was ≡ area_then c was at)
  unfolding next_at area_then gather
  nothing_put e was at = go (cell_triangles c) e
    where
      go : (l : List Triangle) → length l ≡ 0 → (at ≡ next_in was at (all_words l)) × (was ≡ stored_in was at (all_words l))
      go [] h = let N = stored_nothing was at in (N.1, N.0)
      go (x ∷ l) h = absurd (omega arith)

-- a cell of the tables
module _ (cells counts names sides starts : List ℕ) (k : ℕ) where
  abbrev at_k : Cell
  at_k = table_cell cells counts names sides starts k

  pub no_crossings : {six : List ℕ} {n : ℕ} → six ≡ taken_counts counts sides k → n ≡ pre (by_edge six) 6 → n ≡ 0 → length (cell_triangles at_k) ≡ 0
  no_crossings {six} {n} e f z =
      let p : crossings (edges_of at_k) ≡ 0 = ap (λ w. pre w 6) (sym (taken_is cells counts names sides starts k)) ∙ ap (λ l. pre (by_edge l) 6) (sym e) ∙ sym f ∙ z in
      omega (arith, cell_few at_k)

  six_starts : length at_k.starts ≡ 6
  unfolding table_cell
  six_starts = length_singles _ 6 0

  limited_table : limited at_k ≡ at_k
  limited_table = limited_same at_k (table_near cells counts names sides starts k) six_starts

  taken_same : taken_counts counts sides k ≡ values (count_of at_k) 6
  taken_same =
      let g : ℕ → ℕ = λ j. min (get_or counts (side sides (k % most_cells) j) 0) most_count in
      values_ext g (count_of at_k) 6 (λ j l. sym (values_at g 6 j 0 l) ∙ ap (λ (w : ℕ → ℕ). w j) (taken_is cells counts names sides starts k))

  pub limited_as : {v : Cell} → v ≡ at_k → limited v ≡ v
  limited_as e = rw e limited_table

  module _ {six own : List ℕ} {n : ℕ} (e : six ≡ taken_counts counts sides k) (N : PlainNumbers (by_edge six) own n) where
    counts_are : by_edge six ≡ count_of at_k
    counts_are = ap by_edge e ∙ taken_is cells counts names sides starts k

    pub plain_at : Plain (count_of at_k)
    plain_at = subst Plain counts_are N.plain

    pub table_ready : {v : Cell} → v ≡ at_k → Ready v six own
    table_ready f = rw f (record {
      listed = record { near = table_near cells counts names sides starts k; starts_six = six_starts; six_are = e ∙ taken_same };
      plain = plain_at;
      own_are = subst (λ w. AreOwn w own) counts_are N.own_are;
    })

    pub table_booked : {v : Cell} → v ≡ at_k → n ≡ length (cell_triangles v)
    table_booked f = rw f (N.triangles_are ∙ ap booked counts_are ∙ sym (triangles_booked at_k plain_at.level))

-- cells one after the other
module _ (cell : ℕ → Cell) (first : ℕ) (was : List ℕ) (at : ℕ) where
  -- more cells from k on, by their own areas
  next_long : (c : Cell) (a b : List ℕ) (i : ℕ) → length a ≡ length b → next_at c a i ≡ next_at c b i
  unfolding next_at next_in
  next_long c a b i e = rw e

  pub put_on : (m : ℕ) {k : ℕ} {is : List ℕ} {i : ℕ} → first ≤ k → Put cell first was at (k - first) is i → Put cell first was at (k + m - first) (area_after cell k is i m) (next_after cell k is i m)
  unfolding next_after area_after
  put_on zero {k} l P = let e : k + 0 ≡ k = add-zero k in rw e P
  put_on (suc m) {k} {is} {i} l P =
      let Q = put_on m l P in
      let e : k + suc m - first ≡ k + m + 1 - first = omega arith in
      let f : first ≤ k + m = omega arith in
      rw e (put_more cell first was at f Q refl (next_long (cell (k + m)) is (area_after cell k is i m) (next_after cell k is i m) (sym (Q.long ∙ sym P.long))) refl)

  pub put_block : {k e : ℕ} {is : List ℕ} {i : ℕ} → first ≤ k → k ≤ e → Put cell first was at (k - first) is i → {is' : List ℕ} {j : ℕ} → j ≡ next_after cell k is i (e - k) → is' ≡ area_after cell k is i (e - k)
      → Put cell first was at (e - first) is' j
  put_block {k} {e} {is} {i} l h P p q =
      let f : k + (e - k) ≡ e = omega arith in
      rw (p, q) (subst (λ n. Put cell first was at (n - first) (area_after cell k is i (e - k)) (next_after cell k is i (e - k))) f (put_on (e - k) l P))

  pub put_came : {k : ℕ} {end : ℕ} {is : List ℕ} {i : ℕ} → first ≤ k → k - first ≤ end - first → Put cell first was at (k - first) is i → Came cell first end was at k is i
  put_came l h P = record { from = l; upto = h; next = P.next; area = P.area }

  -- cells that were written from k on
  pub came_on : {k end p : ℕ} {is : List ℕ} {i : ℕ} → first ≤ k → Put cell first was at (k - first) is i → {is' : List ℕ} {j : ℕ} → Came cell k end is i p is' j → Put cell first was at (p - first) is' j
  came_on l P C = put_block l C.from P C.next C.area
