use Prim.Native.Nat.{ℕ, ◌+◌, ◌<◌}
use mathlib.Core.Path.{◌≡◌, ap, ◌∙◌}
use mathlib.Core.Bool.{true, false}
use mathlib.Core.List.{List}
use native.Mathlib.Nat.{add-zero}
use native.Mathlib.Omega.{arith}
use lib.Dec.{ltb}
use lib.ListN.{get_or, set}
use Rattle.counting.specs.Pick.{pick}
use Rattle.counting.specs.Lists.{pre, total}
use Rattle.counting.proofs.Range.{total_ext, total_add}
use Rattle.counting.proofs.Stored.{summed_none, summed_more, summed_all}
use Rattle.cell.specs.Level.{by_edge, is_level_cell}
use Rattle.cell.specs.Common.{is_common}
use Rattle.cell.specs.claims.Table.{taken_counts, drawn_cells}
use Rattle.cell.proofs.Values.{taken_crossings}
use Rattle.cases.specs.claims.Cases.{entries}
use Rattle.cases.specs.claims.Tally.{find_entry, triangles_at, find_entry_at}
use Rattle.cases.specs.work.Tally.{triangles_for}
use Rattle.cases.proofs.Digits.{answered, unanswered}
use Rattle.cases.proofs.Tally.{tallied_none, tallied_more, tallied_past, tallied_few, tallied_sum}
use Rattle.booking.specs.claims.Booking.{booked}
use Rattle.booking.specs.work.Totals.{common_at, booked_at, known_at, crossings_at}
use Rattle.booking.proofs.Totals.{told_booked, told_walked, booked_most, crossings_most, none_booked, none_walked, all_booked, all_walked, placed, known_few}
use Rattle.booking.proofs.tables.totals_of.Invariants.{Had}
use Rattle.booking.proofs.tables.totals_of.Goals as goal
use Rattle.booking.proofs.tables.totals_of.Goals.{in-Some-fans_of, in-None}

-- a cell
module _ (counts sides : List ℕ) (c : ℕ) {six : List ℕ} (e : six ≡ taken_counts counts sides c) where
  is_place : (k : ℕ) → k ≡ find_entry (by_edge six) → k ≡ find_entry_at counts sides c
  unfolding find_entry_at
  is_place k f = f ∙ ap (λ l. find_entry (by_edge l)) e

  is-common : (k : ℕ) → k ≡ find_entry (by_edge six) → k < entries → is_common (by_edge (taken_counts counts sides c)) ≡ true
  unfolding find_entry_at
  is-common k f h = (answered (by_edge (taken_counts counts sides c)) k (is_place k f) h).0

  is_outside : entries ≡ find_entry (by_edge six) → is_common (by_edge (taken_counts counts sides c)) ≡ false
  unfolding find_entry_at
  is_outside f = unanswered (by_edge (taken_counts counts sides c)) entries (is_place entries f) (omega arith)

  module _ (out : is_common (by_edge (taken_counts counts sides c)) ≡ false) where
    is_booked : {x : ℕ} → x ≡ pick (is_level_cell (by_edge six)) (booked (by_edge six)) 0 → x ≡ booked_at counts sides c
    is_booked f = f ∙ ap (λ l. pick (is_level_cell (by_edge l)) (booked (by_edge l)) 0) e ∙ all_booked counts sides c out

    is_walked : {x : ℕ} → x ≡ pick (is_level_cell (by_edge six)) 0 (pre (by_edge six) 6) → x ≡ crossings_at counts sides c
    is_walked f =
        f ∙ ap (λ l. pick (is_level_cell (by_edge l)) 0 (pre (by_edge l) 6)) e
        ∙ ap (pick (is_level_cell (by_edge (taken_counts counts sides c))) 0) (taken_crossings counts sides c) ∙ all_walked counts sides c out

-- one cell more: one that has an entry, and one that has none
module _ (counts sides : List ℕ) {c : ℕ} {tally : List ℕ} {x y : ℕ} (H : Had counts sides c tally x y) {six : List ℕ} (e : six ≡ taken_counts counts sides c) where
  one_common : (k : ℕ) → k ≡ find_entry (by_edge six) → k < entries → Had counts sides (c + 1) (set tally k (get_or tally k 0 + 1)) x y
  one_common k f h =
      let C = is-common counts sides c e k f h in
      record {
        tallied = tallied_more (find_entry_at counts sides) H.tallied k (is_place counts sides c e k f) h;
        summed = rw (add-zero x) at (summed_more _ _ H.summed 0 (none_booked counts sides c C) (omega arith));
        crossed = rw (add-zero y) at (summed_more _ _ H.crossed 0 (none_walked counts sides c C) (omega arith));
      }

  one_outside : entries ≡ find_entry (by_edge six) → {i j : ℕ} → (i ≡ pick (is_level_cell (by_edge six)) (booked (by_edge six)) 0) × (j ≡ pick (is_level_cell (by_edge six)) 0 (pre (by_edge six) 6))
      → Had counts sides (c + 1) tally (x + i) (y + j)
  one_outside f (p, q) =
      let out = is_outside counts sides c e f in
      let b = is_booked counts sides c e out p in
      let w = is_walked counts sides c e out q in
      record {
        tallied = tallied_past (find_entry_at counts sides) H.tallied (omega (arith, is_place counts sides c e entries f));
        summed = summed_more _ _ H.summed _ b (omega (arith, b, booked_most counts sides c));
        crossed = summed_more _ _ H.crossed _ w (omega (arith, w, crossings_most counts sides c));
      }

-- all of them
sum_known : (counts sides : List ℕ) (n : ℕ) {tally : List ℕ} {x y : ℕ} → Had counts sides n tally x y → x + total (triangles_for tally) entries 0 ≡ total (known_at counts sides) n 0
unfolding known_at
sum_known counts sides n H =
    omega (
      arith,
      H.summed.is,
      tallied_sum (find_entry_at counts sides) H.tallied,
      total_ext (λ c. pick (ltb (find_entry_at counts sides c) entries) (triangles_at (find_entry_at counts sides c)) 0) (common_at counts sides) n 0 (λ c _ _. placed counts sides c),
      total_add (common_at counts sides) (booked_at counts sides) n 0,
    )

pub loop-c-init : goal.loop-c-init
loop-c-init c = record { tallied = tallied_none _; summed = summed_none _ _; crossed = summed_none _ _ }

pub overflow_add-tally : goal.overflow_add-tally
overflow_add-tally c = omega (arith, tallied_few (find_entry_at _ _) c.loop-c.invariant.tallied c.in-Some.e (omega arith), c.drawn-n.ensures)

pub loop-c-preserved-in-Some : goal.loop-c-preserved-in-Some
loop-c-preserved-in-Some c = one_common _ _ c.loop-c.invariant c.counts_at-six.ensures _ c.in-Some.ensures.place c.in-Some.ensures.within

pub loop-c-preserved : goal.loop-c-preserved
loop-c-preserved c = let L = c.loop-c in
    let e = c.counts_at-six.ensures in
    let p = c.in_default.ensures.place in
    elim c.match-fans_of.branch [
      | in-Some-fans_of w ↦ rw (w.booked-is, w.crossings-is) (rw (add-zero L.crossings) at (one_outside _ _ L.invariant e p (told_booked _ w.in-Some-fans_of.ensures.fans)))
      | in-None w ↦
          let (z, n) = told_walked _ w.in-None.ensures.fans in
          rw (w.booked-is, w.crossings-is) (rw (add-zero L.booked) at (one_outside _ _ L.invariant e p (z, w.crossings_in-crossings.ensures.0 ∙ n)))
    ]

pub returns : goal.returns
returns c = let A = c.args.tables in
    let L = c.loop-c in
    let H = L.invariant in
    let d = c.drawn-n.ensures in
    let n : L.c ≡ drawn_cells A.cells.now = omega (arith, d) in
    let t = ap (λ t. L.booked + t) c.triangles_in.ensures.0 ∙ sum_known _ _ L.c H ∙ ap (λ m. total (known_at A.counts.now A.sides.now) m 0) n in
    record {
      triangles_are = t;
      crossings_are = summed_all _ _ H.crossed n;
      few_triangles = omega (arith, t, known_few A.counts.now A.sides.now (drawn_cells A.cells.now) (omega arith));
      few_crossings = omega (arith, H.crossed.few, d);
    }
