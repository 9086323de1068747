-- The triangles of the cells of a grid's tables: what is had by entry, what is booked and what is walked together are all of them, and there are no more
-- than crossings.
use Prim.Native.Nat.{ℕ, ◌+◌, ◌*◌, ◌≤◌}
use mathlib.Core.Path.{◌≡◌, refl, sym, ap, ◌∙◌}
use mathlib.Core.Logic.{⊎_elim}
use mathlib.Core.Bool.{Bool, true, false, ◌||◌}
use mathlib.Core.List.{List, []}
use native.Mathlib.Nat.{eq-zero-or-pos}
use native.Mathlib.Omega.{arith}
use lib.Dec.{ltb}
use lib.ListN.{length}
use borrow.Author.Tests.{eq-eqb, ne_eqb}
use Rattle.std.specs.Prelude.{Some, None}
use Rattle.counting.specs.Pick.{pick}
use Rattle.counting.specs.Lists.{total, pre}
use Rattle.counting.proofs.Range.{total_ext, total_add, total_mono, total_same, length_over}
use Rattle.cell.specs.declared.Cell.{Cell}
use Rattle.slots.specs.Limits.{most_cells}
use Rattle.cell.specs.work.Limits.{most_in_cell}
use Rattle.cell.specs.Triangles.{cell_triangles}
use Rattle.cell.specs.Level.{by_edge, is_level_cell}
use Rattle.cell.specs.Common.{is_common}
use Rattle.cell.specs.work.Table.{is_known, table_crossings, most_triangles, walked_at}
use Rattle.cell.specs.claims.Table.{table_cell, taken_counts, drawn_cells, table_triangles}
use Rattle.cell.proofs.Taken.{cell_few}
use Rattle.cell.proofs.Using.{table_most}
use Rattle.cell.proofs.Values.{taken_is, taken_crossings}
use Rattle.cases.specs.claims.Cases.{entries, entry_of}
use Rattle.cases.specs.claims.Tally.{triangles_at, find_entry_at}
use Rattle.cases.proofs.Claims.{by_place, common_triangles}
use Rattle.booking.specs.declared.Fans.{Fans}
use Rattle.booking.specs.Booking.{larger, smaller, beside}
use Rattle.booking.specs.claims.Booking.{booked}
use Rattle.booking.specs.work.Fans.{fans_numbers, fans_answer}
use Rattle.booking.specs.work.Totals.{common_at, booked_at, known_at, crossings_at}
use Rattle.booking.proofs.Counts.{plain}
use Rattle.booking.proofs.Levels.{counted, uncounted}
use Rattle.booking.proofs.Count.{crossings_are}
use Rattle.booking.proofs.Triangles.{triangles-booked}

-- no more is booked than there are crossings
pub beside_few : (x y : ℕ) → beside x y ≤ 4 * (x + y)
unfolding beside
beside_few x y = ⊎_elim (λ (e : y ≡ 0). rw (eq-eqb y 0 e) (omega arith)) (λ h. rw (ne_eqb y 0 (omega arith)) (omega arith)) (eq-zero-or-pos y)

pub booked_few : (w : ℕ → ℕ) → is_level_cell w ≡ true → booked w ≤ pre w 6
unfolding booked
booked_few w K = omega (arith, crossings_are (plain w) K, beside_few (larger w) (smaller w))

-- what is summed of a cell that is booked, and of one that is to be walked
module _ (w : ℕ → ℕ) where
  pub told_booked : {f : Fans} → fans_numbers (Some f) ≡ fans_answer w → (f.triangles ≡ pick (is_level_cell w) (booked w) 0) × (0 ≡ pick (is_level_cell w) 0 (pre w 6))
  told_booked told = let F = counted w told in (F.triangles ∙ rw F.level refl, rw F.level refl)

  pub told_walked : fans_numbers None ≡ fans_answer w → (0 ≡ pick (is_level_cell w) (booked w) 0) × (pre w 6 ≡ pick (is_level_cell w) 0 (pre w 6))
  told_walked told = let K = uncounted w told in (rw K refl, rw K refl)

-- a cell of the tables
module _ (counts sides : List ℕ) (c : ℕ) where
  abbrev pub taken : ℕ → ℕ
  taken = by_edge (taken_counts counts sides c)

  pub booked_most : booked_at counts sides c ≤ most_in_cell
  unfolding booked_at
  booked_most = go (is_common taken) (is_level_cell taken) refl
    where
      go : (a b : Bool) → is_level_cell taken ≡ b → pick a 0 (pick b (booked taken) 0) ≤ most_in_cell
      go true b k = omega arith
      go false true k = omega (arith, booked_few taken k, taken_crossings counts sides c, table_most counts sides c)
      go false false k = omega arith

  pub crossings_most : crossings_at counts sides c ≤ most_in_cell
  unfolding crossings_at
  crossings_most = go (is_known taken)
    where
      go : (b : Bool) → pick b 0 (table_crossings counts sides c) ≤ most_in_cell
      go true = omega arith
      go false = table_most counts sides c

  -- a cell with an entry adds to the tally alone, and one without to the booking and the crossings
  pub none_booked : is_common taken ≡ true → 0 ≡ booked_at counts sides c
  unfolding booked_at
  none_booked C = rw C refl

  pub none_walked : is_common taken ≡ true → 0 ≡ crossings_at counts sides c
  unfolding crossings_at is_known
  none_walked C = rw C refl

  pub all_booked : is_common taken ≡ false → pick (is_level_cell taken) (booked taken) 0 ≡ booked_at counts sides c
  unfolding booked_at
  all_booked C = rw C refl

  pub all_walked : is_common taken ≡ false → pick (is_level_cell taken) 0 (table_crossings counts sides c) ≡ crossings_at counts sides c
  unfolding crossings_at is_known
  all_walked C = rw C refl

  -- its triangles by its place in the table
  pub placed : pick (ltb (find_entry_at counts sides c) entries) (triangles_at (find_entry_at counts sides c)) 0 ≡ common_at counts sides c
  unfolding find_entry_at common_at
  placed = by_place taken

module _ (cells counts names sides starts : List ℕ) where
  abbrev at : ℕ → Cell
  at c = table_cell cells counts names sides starts c

  abbrev walked : ℕ → ℕ
  walked = walked_at cells counts names sides starts

  -- its triangles are those of its entry, those booked and those walked, and there are no more than crossings
  both : (c : ℕ) → length (cell_triangles (at c)) ≡ known_at counts sides c + walked c
  unfolding walked_at known_at common_at booked_at is_known
  both c = go (is_common (taken counts sides c)) (is_level_cell (taken counts sides c)) refl refl
    where
      right : is_level_cell (taken counts sides c) ≡ true → length (cell_triangles (at c)) ≡ booked (taken counts sides c)
      right K = let e = taken_is cells counts names sides starts c in triangles-booked (at c) (sym (ap is_level_cell e) ∙ K) ∙ sym (ap booked e)

      go : (a b : Bool) → is_common (taken counts sides c) ≡ a → is_level_cell (taken counts sides c) ≡ b
          → length (cell_triangles (at c)) ≡ pick a (triangles_at (entry_of (taken counts sides c))) 0 + pick a 0 (pick b (booked (taken counts sides c)) 0) + pick (a || b) 0 (length (cell_triangles (at c)))
      go true b k j = common_triangles cells counts names sides starts c k ∙ omega arith
      go false true k j = right j ∙ omega arith
      go false false k j = omega arith

  few : (c : ℕ) → length (cell_triangles (at c)) ≤ table_crossings counts sides c
  few c = omega (arith, cell_few (at c), ap (λ w. pre w 6) (taken_is cells counts names sides starts c), taken_crossings counts sides c)

  walked_few : (c : ℕ) → walked c ≤ crossings_at counts sides c
  unfolding walked_at crossings_at
  walked_few c = go (is_known (taken counts sides c))
    where
      go : (b : Bool) → pick b 0 (length (cell_triangles (at c))) ≤ pick b 0 (table_crossings counts sides c)
      go true = omega arith
      go false = few c

  -- all cells
  pub all_counted : length (table_triangles cells counts names sides starts) ≡ total (known_at counts sides) (drawn_cells cells) 0 + total walked (drawn_cells cells) 0
  unfolding table_triangles
  all_counted =
      length_over (λ c. cell_triangles (at c)) (drawn_cells cells) 0
      ∙ total_ext (λ c. length (cell_triangles (at c))) (λ c. known_at counts sides c + walked c) (drawn_cells cells) 0 (λ c a b. both c)
      ∙ total_add (known_at counts sides) walked (drawn_cells cells) 0

  pub others_few : total walked (drawn_cells cells) 0 ≤ total (crossings_at counts sides) (drawn_cells cells) 0
  others_few = total_mono walked (crossings_at counts sides) (drawn_cells cells) 0 (λ c a b. walked_few c)

  pub all_few : length (table_triangles cells counts names sides starts) ≤ total (table_crossings counts sides) (drawn_cells cells) 0
  unfolding table_triangles
  all_few =
      rw (length_over (λ c. cell_triangles (at c)) (drawn_cells cells) 0)
      (total_mono (λ c. length (cell_triangles (at c))) (table_crossings counts sides) (drawn_cells cells) 0 (λ c a b. few c))

-- so there are no more than any grid can have
pub all_most : (cells counts names sides starts : List ℕ) → length (table_triangles cells counts names sides starts) ≤ most_triangles
all_most cells counts names sides starts =
    omega (
      arith,
      all_few cells counts names sides starts,
      total_mono (table_crossings counts sides) (λ c. most_in_cell) (drawn_cells cells) 0 (λ c _ _. table_most counts sides c),
      total_same (λ c. most_in_cell) most_in_cell (drawn_cells cells) 0 (λ c _ _. refl),
    )

-- no more are known than there are crossings
known_most : (counts sides : List ℕ) (c : ℕ) → known_at counts sides c ≤ most_in_cell
known_most counts sides c = omega (arith, both [] counts [] sides [] c, few [] counts [] sides [] c, table_most counts sides c)

pub known_few : (counts sides : List ℕ) (n : ℕ) → n ≤ most_cells → total (known_at counts sides) n 0 ≤ most_triangles
known_few counts sides n h =
    omega (
      arith,
      total_mono (known_at counts sides) (λ c. most_in_cell) n 0 (λ c _ _. known_most counts sides c),
      total_same (λ c. most_in_cell) most_in_cell n 0 (λ c _ _. refl),
    )
