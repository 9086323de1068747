-- The places call, where the grid check refuses and where it accepts.
use Rattle.std.specs.Prelude.{Ok, Err}
use Prim.Native.Nat.{ℕ, ◌<◌}
use mathlib.Core.Path.{◌≡◌, sym, ap, ap₂, ◌∙◌}
use mathlib.Core.Bool.{true}
use mathlib.Core.List.{List, [], ◌∷◌, ◌++◌}
use native.Mathlib.Nat.{zero-add}
use native.Mathlib.Omega.{arith}
use lib.ListN.{length, get_or}
use lib.Seq.{sets}
use lib.Ieee.{Float}
use Rattle.answer.specs.Answer.{result_of, is_result}
use Rattle.answer.specs.Refusal.{refusal_numbers}
use Rattle.answer.specs.declared.Refusal.{Refusal}
use Rattle.counting.specs.Pick.{pick}
use Rattle.counting.specs.Lists.{over, values}
use Rattle.counting.proofs.Range.{over_ext}
use Rattle.counting.proofs.Lists.{get_or_singles}
use Rattle.cell.proofs.Fans.{below_all}
use Rattle.grid.specs.Check.{check_numbers}
use Rattle.grid.specs.Grid.{Grid, cell_count, edge_number, count_of, start, crossings}
use Rattle.slots.specs.Limits.{most_slots}
use Rattle.slots.specs.work.Limits.{most_edges}
use Rattle.grid.specs.Rows.{grid_answer, accepts}
use Rattle.grid.specs.work.Tables.{Laid}
use Rattle.grid.proofs.Sound.{edge_numbers}
use Rattle.grid.proofs.Accepts.{acceptance_yields}
use Rattle.grid.proofs.Claims.{accepted_is}
use Rattle.grid.proofs.Filled.{refused_keeps, crossings_accept}
use Rattle.mesh.specs.Mesh.{grid_cell}
use Rattle.cell.specs.claims.Table.{table_cell, drawn_cells}
use Rattle.mesh.proofs.Tables.{Tabled, tabled, cell_is}
use Rattle.place.specs.declared.Place.{Place}
use Rattle.place.specs.Place.{all_numbers}
use Rattle.cell.specs.claims.Middles.{cell_middles, numbered_below}
use Rattle.cell.specs.claims.Nests.{nest_middle}
use Rattle.split.specs.Standing.{inner_places, drawn_middles}
use Rattle.places.specs.Nested.{nested_middle, placed_middles}
use Rattle.places.specs.Points.{crossing_place, inner_points, middles, points}
use Rattle.places.specs.Answer.{rows_answer, places_answer, placed, places_area}
use Rattle.places.specs.Done.{Done}
use Rattle.places.specs.work.Work.{table_inner, table_middles, table_points, PlacesReady, PointsIn}
use Rattle.grid.proofs.Nodes.{numbers_small}
use Rattle.places.proofs.Fractions.{start_fits}
use Rattle.places.proofs.ExactCase.{exact_case}
use Rattle.places.proofs.Split.{drawn_same}

module _ {G : Grid} {names sides : List ℕ} (T : Tabled G names sides) where
  -- the crossings of a cell are those of its edges
  grid_below : (c : ℕ) → c < cell_count G.cells → numbered_below (grid_cell G c) (crossings G.counts) ≡ true
  unfolding grid_cell
  grid_below c l =
      let e = edge_number G c in
      below_all (grid_cell G c) (crossings G.counts) (λ k h.
      omega (
        arith,
        get_or_singles (λ i. start G.counts (e i)) 0 6 0 k h ∙ ap (λ i. start G.counts (e i)) (zero-add k),
        get_or_singles (λ i. count_of G.counts (e i)) 0 6 0 k h ∙ ap (λ i. count_of G.counts (e i)) (zero-add k),
        start_fits G.counts (e k) ((edge_numbers G T.sound).listed c k l h),
      ))

  pub ready : (n : ℕ) → n ≡ crossings G.counts → PlacesReady G.cells G.counts names sides G.starts G.edges n
  ready n e = record {
    judged = record { fours = T.sound.fours; some = T.sound.some_cell; nodes = numbers_small G T.sound; all = e };
    few = omega (arith, e, T.sound.few_crossings);
    pairs = T.sound.pairs;
    below = λ c l. rw (cell_is T c l, e) (grid_below c l);
  }

  pub points_are : (nodes fractions : List Float) → table_points G.cells G.counts names sides G.starts G.edges nodes fractions ≡ points G nodes fractions
  unfolding table_points table_inner table_middles points inner_points middles
  points_are nodes fractions =
      let all : drawn_cells G.cells ≡ cell_count G.cells = omega (arith, T.sound.few_cells) in
      let place = crossing_place G.edges G.counts nodes fractions in
      let at = table_cell G.cells G.counts names sides G.starts in
      let i : over (λ c. inner_places nodes (at c)) (drawn_cells G.cells) 0 ≡ over (λ c. inner_places nodes (grid_cell G c)) (cell_count G.cells) 0 =
      rw all (over_ext (λ c. inner_places nodes (at c)) (λ c. inner_places nodes (grid_cell G c)) (cell_count G.cells) 0 (λ c a b. ap (inner_places nodes) (cell_is T c (omega arith)))) in
      let f : ℕ → List Place = λ c. drawn_middles nodes (at c) nest_middle (cell_middles nodes place (at c)) in
      let g : ℕ → List Place = λ c. drawn_middles nodes (grid_cell G c) nested_middle (placed_middles nodes place (grid_cell G c)) in
      let m : over f (drawn_cells G.cells) 0 ≡ over g (cell_count G.cells) 0 =
      rw all (over_ext f g (cell_count G.cells) 0
      (λ c a b. ap (λ v. drawn_middles nodes v nest_middle (cell_middles nodes place v)) (cell_is T c (omega arith)) ∙ drawn_same nodes place (grid_cell G c))) in
      ap₂ (λ (x y : List Place). values place (crossings G.counts) ++ (x ++ y)) i m

module _ (G : Grid) (nodes fractions : List Float) where
  -- the two equations give the exact case
  done : (before after : List Float) (answer : List ℕ) → answer ≡ places_answer G nodes fractions (length before)
      → after ≡ places_area G nodes fractions before → Done G nodes fractions before after answer
  done before after answer a b = record { answered = a; area = b; exact = rw (a, b) (exact_case G nodes fractions before) }

  pub refused_done : (r : Refusal) (area : List Float) → check_numbers (Err r) ≡ grid_answer G → Done G nodes fractions area area (refusal_numbers r)
  unfolding places_answer places_area placed
  refused_done r area q = let k = refused_keeps G r q in done area area (refusal_numbers r) (rw k q) (rw (k, k))

  module _ (n : ℕ) (q : check_numbers (Ok n) ≡ grid_answer G) where
    is-result : grid_answer G ≡ result_of (n ∷ [])
    is-result = sym q

    accepted : accepts G ≡ true
    accepted = crossings_accept G n (sym is-result)

    number_is : n ≡ crossings G.counts
    number_is = ap (λ (l : List ℕ). get_or l 1 0) (sym is-result ∙ accepted_is G accepted)

    module _ (names₀ sides₀ names sides : List ℕ) (ln : length names₀ ≡ most_slots) (ls : length sides₀ ≡ most_edges) (o : Laid G names₀ sides₀ names sides) where
      tables : Tabled G names sides
      tables = tabled G names₀ sides₀ names sides (acceptance_yields G (n ∷ []) is-result).sound accepted ln ls o

      pub laid_ready : PlacesReady G.cells G.counts names sides G.starts G.edges n
      laid_ready = ready tables n number_is

      pub placed_done : (before after : List Float) (answer : List ℕ) → PointsIn G.cells G.counts names sides G.starts G.edges nodes fractions before after answer
          → Done G nodes fractions before after answer
      unfolding places_answer places_area placed
      placed_done before after answer d =
          let p = points_are tables nodes fractions in
          let a : answer ≡ places_answer G nodes fractions (length before) =
          rw accepted (d.answered ∙ ap (λ (x : List Place). rows_answer G.cells G.counts nodes fractions (length x) (length before)) p) in
          done before after answer a
          (d.area
          ∙ ap (λ (x : List Place). pick (is_result answer) (sets before 0 (all_numbers x)) before) p
          ∙ ap (λ (x : List ℕ). pick (is_result x) (sets before 0 (all_numbers (points G nodes fractions))) before) a)
