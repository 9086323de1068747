-- The inner crossings and the fans of all cells: how many there are, and their places written cell by cell.
use Prim.Native.Nat.{ℕ, zero, suc, ◌+◌, ◌*◌, ◌≤◌, ◌<◌}
use mathlib.Core.Path.{◌≡◌, refl, sym, ap, ◌∙◌}
use mathlib.Core.Bool.{true, false}
use mathlib.Core.List.{List}
use native.Mathlib.Nat.{zero-add}
use native.Mathlib.Omega.{arith}
use lib.ListN.{length}
use lib.Ieee.{Float}
use Rattle.counting.specs.Lists.{total, over}
use Rattle.counting.specs.work.Stored.{Stored}
use Rattle.counting.proofs.Lists.{gather_over}
use Rattle.counting.proofs.Range.{length_over, total_ext, total_add, total_has, over_ext}
use Rattle.counting.proofs.Stored.{stored_as}
use Rattle.place.specs.declared.Place.{Place}
use Rattle.place.specs.Place.{coordinates, place_at, numbers, all_numbers}
use Rattle.place.proofs.Numbers.{length_numbers, place_kept}
use Rattle.cell.specs.declared.Cell.{Cell}
use Rattle.cell.specs.Of.{count_of}
use Rattle.cell.specs.claims.Nests.{nest_middle}
use Rattle.cell.specs.claims.Middles.{fan_count, cell_middles, numbered_below, middles_at}
use Rattle.cell.specs.claims.Table.{table_cell, drawn_cells}
use Rattle.cell.specs.work.Table.{table_fans, middles_written}
use Rattle.cell.proofs.Fans.{length_cell, below_more, below_placeable, cell_ext}
use Rattle.cell.proofs.Values.{taken_is}
use Rattle.booking.specs.Booking.{is_split}
use Rattle.direct.proofs.Over.{none_written}
use Rattle.split.specs.Standing.{inner_places, drawn_middles}
use Rattle.split.specs.work.Spots.{inner_by, fans_by, cells_stored, inner_in, added_in, inner_at_cell, middles_at_cell}
use Rattle.split.proofs.Spotted.{inner-by, fans-by, unsplit_by, inner_not, stored_empty, cells_none, cells_stretch, cells_written}
use Rattle.places.specs.work.Work.{table_inner, table_middles_of, table_middles, rest_written}

module _ (cells counts names sides starts : List ℕ) where
  abbrev pub cell_at : ℕ → Cell
  cell_at c = table_cell cells counts names sides starts c

  abbrev many : ℕ
  many = drawn_cells cells

  -- how many there are
  pub length_inner : (nodes : List Float) → length (table_inner cells counts names sides starts nodes) ≡ total (inner_in counts sides) many 0
  unfolding table_inner inner_in
  length_inner nodes =
      length_over (λ c. inner_places nodes (cell_at c)) many 0
      ∙ total_ext (λ c. length (inner_places nodes (cell_at c))) (inner_in counts sides) many 0
      (λ c _ _. inner-by nodes (cell_at c) ∙ ap inner_by (sym (taken_is cells counts names sides starts c)))

  pub length_table : (nodes : List Float) (place : ℕ → Place)
      → length (table_middles cells counts names sides starts nodes place) ≡ table_fans cells counts names sides starts + total (added_in counts sides) many 0
  unfolding table_middles table_fans added_in
  length_table nodes place =
      length_over (table_middles_of cells counts names sides starts nodes place) many 0
      ∙ total_ext (λ c. length (table_middles_of cells counts names sides starts nodes place c)) (λ c. fan_count (cell_at c) + added_in counts sides c) many 0
      (λ c _ _. fans-by nodes (cell_at c) (cell_middles nodes place (cell_at c)) (length_cell nodes place (cell_at c))
      ∙ ap (λ w. fan_count (cell_at c) + fans_by w) (sym (taken_is cells counts names sides starts c)))
      ∙ total_add (λ c. fan_count (cell_at c)) (added_in counts sides) many 0

  -- the middles are determined by the places of the nodes and the crossings
  pub table_ext : (nodes : List Float) (n : ℕ) → ((c : ℕ) → c < many → numbered_below (cell_at c) n ≡ true) → (place other : ℕ → Place) → ((g : ℕ) → g < n → place g ≡ other g)
      → table_middles cells counts names sides starts nodes place ≡ table_middles cells counts names sides starts nodes other
  unfolding table_middles
  table_ext nodes n b place other same =
      over_ext (table_middles_of cells counts names sides starts nodes place) (table_middles_of cells counts names sides starts nodes other) many 0
      (λ c a l. ap (drawn_middles nodes (cell_at c) nest_middle) (cell_ext nodes (cell_at c) n (below_placeable (cell_at c) n (b c (omega arith))) place other same))

  module _ (nodes area : List Float) (at : ℕ) where
    -- the inner crossings have room from point `at` on
    module _ (room : coordinates * (at + length (table_inner cells counts names sides starts nodes)) ≤ length area) where
      abbrev inner : ℕ → List Place
      inner c = inner_places nodes (cell_at c)

      inner_are : all_numbers (table_inner cells counts names sides starts nodes) ≡ over (λ c. all_numbers (inner c)) many 0
      unfolding table_inner
      inner_are = gather_over numbers inner many 0

      pub inner_written : {out : List Float} {r : ℕ} → (out, r) ≡ cells_stored (inner_at_cell cells counts names sides starts nodes) area at many
          → Stored area (coordinates * at) (all_numbers (table_inner cells counts names sides starts nodes)) out (coordinates * r)
      inner_written e =
          let l = length_numbers (table_inner cells counts names sides starts nodes) in
          let S = cells_written (inner_at_cell cells counts names sides starts nodes) inner area at many (omega (arith, room, l, ap length inner_are)) (λ c _ mid i _. refl) many (omega arith) in
          stored_as (rw (← e) at S) (sym inner_are) refl

    -- and the middles, where the places of all crossings stand before that point
    module _ (below : (c : ℕ) → c < many → numbered_below (cell_at c) at ≡ true)
        (room : coordinates * (at + length (table_middles cells counts names sides starts nodes (place_at area))) ≤ length area) where
      abbrev mids : ℕ → List Place
      mids = table_middles_of cells counts names sides starts nodes (place_at area)

      mids_are : all_numbers (table_middles cells counts names sides starts nodes (place_at area)) ≡ over (λ c. all_numbers (mids c)) many 0
      unfolding table_middles
      mids_are = gather_over numbers mids many 0

      known : (c : ℕ) → c < many → (mid : List Float) (i : ℕ) → Stored area (coordinates * at) (over (λ c. all_numbers (mids c)) c 0) mid (coordinates * i)
          → middles_at nodes (cell_at c) mid i ≡ cell_middles nodes (place_at area) (cell_at c)
      unfolding middles_at
      known c l mid i S =
          let v = cell_at c in
          let b = below c l in
          rw (below_placeable v i (below_more v b (omega (arith, S.after)))) (cell_ext nodes v at (below_placeable v at b) (place_at mid) (place_at area) (place_kept S))

      pub middles-written : {out : List Float} {r : ℕ} → (out, r) ≡ cells_stored (middles_at_cell cells counts names sides starts nodes) area at many
          → Stored area (coordinates * at) (all_numbers (table_middles cells counts names sides starts nodes (place_at area))) out (coordinates * r)
      middles-written e =
          let l = length_numbers (table_middles cells counts names sides starts nodes (place_at area)) in
          let S = cells_written (middles_at_cell cells counts names sides starts nodes) mids area at many (omega (arith, room, l, ap length mids_are))
          (λ c h mid i S. ap (drawn_middles nodes (cell_at c) nest_middle) (known c h mid i S)) many (omega arith) in
          stored_as (rw (← e) at S) (sym mids_are) refl

  -- where no cell is split
  module _ (none : total (inner_in counts sides) many 0 ≡ 0) (nodes area : List Float) (at : ℕ) where
    unsplit : (c : ℕ) → c < many → is_split (count_of (cell_at c)) ≡ false
    unfolding inner_in
    unsplit c l =
        unsplit_by nodes (cell_at c)
        (ap inner_by (sym (taken_is cells counts names sides starts c)) ∙ omega (arith, none, total_has (inner_in counts sides) many 0 c (omega arith) (omega arith)))

    inner_same : (c : ℕ) → c ≤ many → (area, at) ≡ cells_stored (inner_at_cell cells counts names sides starts nodes) area at c
    unfolding cells_stored
    inner_same zero l = refl
    inner_same (suc c) l =
        rw (← (inner_same c (omega arith)), inner_not nodes (cell_at c) (unsplit c (omega arith))) (stored_empty area at)

    middles_same : middles_written cells counts names sides starts nodes 0 area at many ≡ cells_stored (middles_at_cell cells counts names sides starts nodes) area at many
    middles_same =
        cells_stretch cells counts names sides starts nodes area at 0 (cells_none (middles_at_cell cells counts names sides starts nodes) area at) many (λ c _ l. unsplit c (omega arith))
        ∙ ap (cells_stored (middles_at_cell cells counts names sides starts nodes) area at) (zero-add many)

    pub rest_same : middles_written cells counts names sides starts nodes 0 area at many ≡ rest_written cells counts names sides starts nodes area at
    unfolding rest_written
    rest_same = rw (← (inner_same many (omega arith))) middles_same

    -- and there is no fan, nothing is written
    pub rest_none : table_fans cells counts names sides starts ≡ 0 → rest_written cells counts names sides starts nodes area at ≡ (area, at)
    unfolding table_fans
    rest_none z =
        let f : ℕ → ℕ = λ c. fan_count (cell_at c) in
        sym rest_same ∙ none_written cells counts names sides starts nodes 0 area at many (λ c a l. omega (arith, z, total_has f many 0 c (omega arith) (omega arith)))
