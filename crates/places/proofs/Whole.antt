-- All points of a grid from its tables: judged, and written.
use Rattle.std.specs.Prelude.{Result, Ok, Err}
use Prim.Native.Nat.{ℕ, ◌+◌, ◌*◌, ◌≤◌, ◌<◌}
use mathlib.Core.Path.{◌≡◌, refl, sym, ap, ◌∙◌}
use mathlib.Core.Bool.{true}
use mathlib.Core.List.{List, [], ◌∷◌, ◌++◌}
use native.Mathlib.Nat.{zero-add}
use native.Mathlib.Omega.{arith}
use lib.ListN.{length, length-append}
use lib.Seq.{sets, length-sets}
use lib.Ieee.{Float}
use Rattle.answer.specs.declared.Refusal.{Refusal}
use Rattle.answer.proofs.Numbers.{refusal_not}
use Rattle.counting.specs.Lists.{total, values}
use Rattle.counting.specs.work.Stored.{Stored}
use Rattle.counting.proofs.Lists.{length_singles, get_or_singles}
use Rattle.counting.proofs.Stored.{stored_as, stored_long}
use Rattle.grid.specs.Grid.{crossings}
use Rattle.place.specs.declared.Place.{Place}
use Rattle.place.specs.Place.{coordinates, place_at, all_numbers}
use Rattle.places.specs.Points.{crossing_place}
use Rattle.places.specs.Answer.{places_numbers, rows_answer}
use Rattle.cell.specs.claims.Middles.{numbered_below}
use Rattle.cell.specs.claims.Table.{table_cell, drawn_cells}
use Rattle.cell.specs.work.Table.{table_fans}
use Rattle.cell.proofs.Fans.{below_more}
use Rattle.split.specs.work.Spots.{cells_stored, inner_in, added_in, inner_at_cell, middles_at_cell}
use Rattle.places.specs.work.Work.{Placeable, table_inner, table_middles, table_points, rest_written, PlacesReady, PointsIn}
use Rattle.place.proofs.Numbers.{length_numbers, front_place, points-then, place_kept}
use Rattle.places.proofs.Middles.{length_inner, length_table, table_ext, inner_written, middles-written}
use Rattle.places.proofs.Answers.{Fine, rows_fine}

module _ (cells edges counts names sides starts : List ℕ) (nodes fractions : List Float) where
  abbrev place : ℕ → Place
  place g = crossing_place edges counts nodes fractions g

  abbrev pub crossing_places : List Place
  crossing_places = values place (crossings counts)

  abbrev all : List Place
  all = table_points cells counts names sides starts edges nodes fractions

  abbrev inner : List Place
  inner = table_inner cells counts names sides starts nodes

  abbrev mids : List Place
  mids = table_middles cells counts names sides starts nodes place

  -- the inner crossings, and the fans that splits add
  abbrev pub inner_sum : ℕ
  inner_sum = total (inner_in counts sides) (drawn_cells cells) 0

  abbrev pub added_sum : ℕ
  added_sum = total (added_in counts sides) (drawn_cells cells) 0

  pub points_long : length all ≡ crossings counts + (inner_sum + (table_fans cells counts names sides starts + added_sum))
  unfolding table_points
  points_long =
      omega (
        arith,
        length-append crossing_places (inner ++ mids),
        length-append inner mids,
        length_singles place (crossings counts) 0,
        length_inner cells counts names sides starts nodes,
        length_table cells counts names sides starts nodes place,
      )

  module _ (n : ℕ) (R : PlacesReady cells counts names sides starts edges n) (before : List Float) (r : Result ℕ Refusal) (m : ℕ)
      (long : m ≡ n + (inner_sum + (table_fans cells counts names sides starts + added_sum)))
      (h : places_numbers r ≡ rows_answer cells counts nodes fractions m (length before)) where
    many : m ≡ length all
    many = omega (arith, long, points_long, R.judged.all)

    answered : places_numbers r ≡ rows_answer cells counts nodes fractions (length all) (length before)
    answered = h ∙ ap (λ k. rows_answer cells counts nodes fractions k (length before)) many

    pub refused_in : (x : Refusal) → r ≡ Err x → PointsIn cells counts names sides starts edges nodes fractions before before (places_numbers (Err x))
    refused_in x e = record { answered = ap places_numbers (sym e) ∙ answered; area = rw (refusal_not x) }

    module _ (k : ℕ) (e : r ≡ Ok k) where
      fine : Fine cells counts nodes fractions (length all) (length before)
      fine = rows_fine cells counts nodes fractions (length all) (length before) (k ∷ []) (sym answered ∙ ap places_numbers e)

      room : coordinates * (crossings counts + (inner_sum + (table_fans cells counts names sides starts + added_sum))) ≤ length before
      room = omega (arith, fine.area_long, points_long)

      pub placeable : Placeable edges counts fractions before
      placeable = record {
        pairs = R.pairs;
        given = fine.fractions_long;
        room = omega (arith, room);
      }

      -- once the crossings are written
      module _ (mid : List Float) (f : mid ≡ sets before 0 (all_numbers crossing_places)) where
        same : length mid ≡ length before
        same = ap length f ∙ length-sets before 0 (all_numbers crossing_places)

        below : (c : ℕ) → c < drawn_cells cells → numbered_below (table_cell cells counts names sides starts c) n ≡ true
        below c l = R.below c (omega arith)

        loaded : (g : ℕ) → g < n → place_at mid g ≡ place g
        loaded g l =
            let s = length_singles place (crossings counts) 0 in
            let i : g < crossings counts = omega (arith, R.judged.all) in
            ap (λ (x : List Float). place_at x g) f
            ∙ front_place crossing_places before g (place g) (omega (arith, s, room)) (omega (arith, s))
            ∙ get_or_singles place (place g) (crossings counts) 0 g i
            ∙ ap place (zero-add g)

        -- and then the inner crossings and the middles
        module _ (on : List Float) (j : ℕ) (S : Stored mid (coordinates * n) (all_numbers inner) on (coordinates * j)) where
          n_le : n ≤ j
          n_le = omega (arith, S.after)

          kept : (g : ℕ) → g < n → place_at on g ≡ place g
          kept g l = place_kept S g l ∙ loaded g l

          mids_same : table_middles cells counts names sides starts nodes (place_at on) ≡ mids
          mids_same = table_ext cells counts names sides starts nodes n below (place_at on) place kept

          mids_room : coordinates * (j + length (table_middles cells counts names sides starts nodes (place_at on))) ≤ length on
          mids_room =
              omega (
                arith,
                room,
                R.judged.all,
                same,
                stored_long S,
                S.after,
                length_numbers inner,
                length_inner cells counts names sides starts nodes,
                length_table cells counts names sides starts nodes (place_at on),
              )

          points-stored : {after : List Float} {next : ℕ} → (after, next) ≡ cells_stored (middles_at_cell cells counts names sides starts nodes) on j (drawn_cells cells)
              → PointsIn cells counts names sides starts edges nodes fractions before after (places_numbers (Ok k))
          unfolding table_points
          points-stored {after} q =
              let s = length_singles place (crossings counts) 0 in
              let T = middles-written cells counts names sides starts nodes on j (λ c l. below_more (table_cell cells counts names sides starts c) (below c l) n_le) mids_room q in
              let w : after ≡ sets before 0 (all_numbers all) =
              (points-then crossing_places (inner ++ mids) (record { area = f; after = omega (arith, s, length_numbers crossing_places, R.judged.all) })
              (points-then inner mids S (stored_as T (ap all_numbers mids_same) refl))).area in
              record { answered = ap places_numbers (sym e) ∙ answered; area = w }

        inner_room : coordinates * (n + length inner) ≤ length mid
        inner_room = omega (arith, room, R.judged.all, same, length_inner cells counts names sides starts nodes)

        pub points_in : (after : List Float) {next : ℕ} → (after, next) ≡ rest_written cells counts names sides starts nodes mid n
            → PointsIn cells counts names sides starts edges nodes fractions before after (places_numbers (Ok k))
        unfolding rest_written
        points_in after q =
            let w = cells_stored (inner_at_cell cells counts names sides starts nodes) mid n (drawn_cells cells) in
            points-stored w.0 w.1 (inner_written cells counts names sides starts nodes mid n inner_room refl) q
