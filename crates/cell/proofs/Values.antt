-- A place past the end of a list, a list into which the values of a function are put one after the other, and the counts of a cell of a grid's
-- tables.
use Prim.Native.Nat.{ℕ, ◌+◌, ◌%◌, ◌≤◌, ◌<◌, min}
use mathlib.Core.Path.{◌≡◌, sym, ap, ◌∙◌, fun_ext}
use mathlib.Core.List.{List, []}
use native.Mathlib.Omega.{arith}
use native.Mathlib.Decide.{dec_lt}
use lib.ListN.{length, get_or, set, get_or-eq_default}
use Rattle.counting.specs.Lists.{values, pre}
use Rattle.counting.specs.Stored.{filled}
use Rattle.counting.proofs.Lists.{length_singles, values_at}
use Rattle.counting.proofs.Stored.{filled_none, filled_more, filled_whole}
use Rattle.slots.specs.Limits.{most_count, most_cells}
use Rattle.cell.specs.declared.Cell.{Cell}
use Rattle.cell.specs.Of.{count_of}
use Rattle.cell.specs.Level.{by_edge}
use Rattle.cell.specs.claims.Table.{side, table_cell, taken_counts}
use Rattle.cell.specs.work.Table.{table_crossings}

-- a place past the end of a list reads as 0
pub past_end : (l : List ℕ) (n : ℕ) → length l ≤ n → 0 ≡ get_or l n 0
past_end l n h = sym (get_or-eq_default l 0 h)

-- the first k of n values, in a list of n
pub record Valued (f : ℕ → ℕ) (n : ℕ) (was : List ℕ) (k : ℕ) (is : List ℕ) : Type 0 where
  pub up : k ≤ n
  pub long : length was ≡ n
  pub stored : is ≡ filled f k was

module _ (f : ℕ → ℕ) (n : ℕ) {was : List ℕ} where
  pub valued_none : length was ≡ n → Valued f n was 0 was
  valued_none l = record { up = omega arith; long = l; stored = filled_none f was }

  pub valued_more : {k : ℕ} {is : List ℕ} → Valued f n was k is → k < n → (v : ℕ) → v ≡ f k → Valued f n was (k + 1) (set is k v)
  valued_more {k} {is} w h v e = record { up = omega arith; long = w.long; stored = filled_more f k was is v w.stored e }

  pub valued_all : {k : ℕ} {is : List ℕ} → Valued f n was k is → n ≤ k → is ≡ values f n
  valued_all {k} {is} w h =
      let e : k ≡ n = omega (arith, w.up) in
      w.stored ∙ ap (λ m. filled f m was) e ∙ filled_whole f n was w.long

-- the counts that are taken of the tables are those of the cell, which has so many crossings
pub taken_is : (cells counts names sides starts : List ℕ) (c : ℕ) → by_edge (taken_counts counts sides c) ≡ count_of (table_cell cells counts names sides starts c)
unfolding table_cell
taken_is cells counts names sides starts c = fun_ext same
  where
    f : ℕ → ℕ
    f k = get_or counts (side sides (c % most_cells) k) 0

    g : ℕ → ℕ
    g k = min (f k) most_count

    same : (k : ℕ) → get_or (values g 6) k 0 ≡ min (get_or (values f 6) k 0) most_count
    same k =
        elim (dec_lt k 6) [
          | yes l ↦ values_at g 6 k 0 l ∙ ap (λ n. min n most_count) (sym (values_at f 6 k 0 l))
          | no l ↦ get_or-eq_default (values g 6) 0 (omega (arith, length_singles g 6 0)) ∙ ap (λ n. min n most_count) (past_end (values f 6) k (omega (arith, length_singles f 6 0)))
        ]

pub taken_crossings : (counts sides : List ℕ) (c : ℕ) → pre (by_edge (taken_counts counts sides c)) 6 ≡ table_crossings counts sides c
unfolding table_crossings
taken_crossings counts sides c = ap (λ w. pre w 6) (taken_is [] counts [] sides [] c)

-- and the listed counts of a cell that lists six are those of the cell
pub six_taken : (c : Cell) → length c.counts ≡ 6 → by_edge (values (count_of c) 6) ≡ count_of c
six_taken c six = fun_ext same
  where
    same : (k : ℕ) → get_or (values (count_of c) 6) k 0 ≡ count_of c k
    same k =
        elim (dec_lt k 6) [
          | yes l ↦ values_at (count_of c) 6 k 0 l
          | no l ↦ get_or-eq_default (values (count_of c) 6) 0 (omega (arith, length_singles (count_of c) 6 0)) ∙ ap (λ n. min n most_count) (past_end c.counts k (omega arith))
        ]
