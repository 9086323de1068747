-- The exact case for every placed crossing of an accepted input.
use Prim.Native.Nat.{ℕ, ◌+◌, ◌*◌, ◌/◌, ◌<◌}
use mathlib.Core.Path.{◌≡◌, sym, ap, ◌∙◌, subst}
use mathlib.Core.Bool.{true}
use mathlib.Core.List.{List, ◌++◌}
use native.Mathlib.Omega.{arith}
use lib.ListN.{length, get_or, length-append, get_or-append}
use lib.IntN.{pos, ◌+ℤ◌, ◌-ℤ◌, ◌*ℤ◌}
use lib.Ieee.{Float, nan}
use borrow.Author.Tests.{not-false}
use Rattle.answer.specs.Answer.{result_of}
use Rattle.counting.specs.Lists.{values}
use Rattle.counting.proofs.Bools.{or_none}
use Rattle.counting.proofs.Lists.{length_singles, get_or_singles}
use Rattle.counting.proofs.Pack.{row_lt}
use native.Mathlib.Nat.{zero-add}
use Rattle.grid.specs.Grid.{Grid, low, high, start, count_of, crossings, has_node}
use Rattle.place.specs.declared.Place.{Place}
use Rattle.place.specs.Place.{within, interpolated, coordinates, place_at, numbers}
use Rattle.places.specs.Numbers.{proper_fraction}
use Rattle.places.specs.Points.{edge_of_crossing, crossing_place, inner_points, middles, points}
use Rattle.places.specs.Rows.{bad_number, bad_fraction_at, bad_fraction}
use Rattle.places.specs.Answer.{needed, places_answer, places_area}
use Rattle.places.specs.Exact.{Exactly, fraction_parts, ExactCase}
use Rattle.place.proofs.Numbers.{front_at, number_loaded, number_between}
use Rattle.places.proofs.Exact.{interpolated_exact, within_whole, proper_part}
use Rattle.places.proofs.Nodes.{End, low_end, high_end}
use Rattle.places.proofs.Answers.{Passed, passed, placed_is}

module _ (G : Grid) (nodes fractions : List Float) where
  abbrev at : ℕ → Place
  at g = crossing_place G.edges G.counts nodes fractions g

  -- point g of the list is crossing g, where there is one
  module _ (g : ℕ) (h : g < crossings G.counts) where
    front_long : length (values at (crossings G.counts)) ≡ crossings G.counts
    front_long = length_singles at (crossings G.counts) 0

    pub point-at : (p : Place) → get_or (points G nodes fractions) g p ≡ at g
    unfolding points
    point-at p =
        get_or-append (values at (crossings G.counts)) (inner_points G nodes fractions ++ middles G nodes fractions) p g (omega (arith, front_long))
        ∙ get_or_singles at p (crossings G.counts) 0 g h
        ∙ ap at (zero-add g)

    pub point_lt : g < needed G nodes fractions
    unfolding points
    point_lt = omega (arith, front_long, length-append (values at (crossings G.counts)) (inner_points G nodes fractions ++ middles G nodes fractions))

    edge_lt : edge_of_crossing G.counts g < length G.counts
    unfolding edge_of_crossing start
    edge_lt = row_lt (count_of G.counts) (length G.counts) g h

  module _ (area : List Float) (values : List ℕ) (e : places_answer G nodes fractions (length area) ≡ result_of values) where
    ok : Passed G nodes fractions (length area)
    ok = passed G nodes fractions (length area) values e

    -- number t of the place that is written for crossing g
    pub written : (g t : ℕ) → g < crossings G.counts → t < coordinates
        → get_or (places_area G nodes fractions area) (coordinates * g + t) nan
        ≡ interpolated (get_or nodes (coordinates * low G.edges (edge_of_crossing G.counts g) + t) nan) (get_or nodes (coordinates * high G.edges (edge_of_crossing G.counts g) + t) nan) (get_or fractions g nan)
    unfolding places_area crossing_place
    written g t h k =
        let ps = points G nodes fractions in
        let u = place_at nodes (low G.edges (edge_of_crossing G.counts g)) in
        let v = place_at nodes (high G.edges (edge_of_crossing G.counts g)) in
        let s = get_or fractions g nan in
        let l = point_lt g h in
        rw (placed_is G nodes fractions (length area) values e)
        (front_at ps area g t u ok.rows.area_long l k
        ∙ ap (λ (p : Place). get_or (numbers p) t nan) (point-at g h u)
        ∙ number_between u v s t k
        ∙ ap (λ x. interpolated x (get_or (numbers v) t nan) s) (number_loaded nodes (low G.edges (edge_of_crossing G.counts g)) t k)
        ∙ ap (λ x. interpolated (get_or nodes (coordinates * low G.edges (edge_of_crossing G.counts g) + t) nan) x s) (number_loaded nodes (high G.edges (edge_of_crossing G.counts g)) t k))

    -- rows 16 and 17 at the numbers it is made of
    within_at : (v t : ℕ) → End G ok.grid v → t < coordinates → within (get_or nodes (coordinates * v + t) nan) ≡ true
    unfolding bad_number
    within_at v t m k =
        let z : (coordinates * v + t) / coordinates ≡ v = omega arith in
        let p : has_node G.cells ((coordinates * v + t) / coordinates) ≡ true = ap (has_node G.cells) z ∙ m.has in
        not-false _ (rw p at (ok.rows.numbers_fine (coordinates * v + t) (omega (arith, m.below))))

    proper_at : (g : ℕ) → g < crossings G.counts → proper_fraction (get_or fractions g nan) ≡ true
    unfolding bad_fraction bad_fraction_at
    proper_at g h = not-false _ (or_none _ _ (ok.rows.fractions_fine g h)).0

  pub exact_case : (area : List Float) → ExactCase G.edges G.counts nodes fractions (places_answer G nodes fractions (length area)) (places_area G nodes fractions area)
  exact_case area values e g t h k u v n w =
      let a = ok area values e in
      let c = edge_lt g h in
      let lw = within_at area values e (low G.edges (edge_of_crossing G.counts g)) t (low_end G a.grid (edge_of_crossing G.counts g) c) k in
      let hw = within_at area values e (high G.edges (edge_of_crossing G.counts g)) t (high_end G a.grid (edge_of_crossing G.counts g) c) k in
      subst (λ x. Exactly fraction_parts x (pos fraction_parts *ℤ u +ℤ n *ℤ (v -ℤ u))) (sym (written area values e g t h k))
      (interpolated_exact _ _ _ u v n w.lower w.upper w.part (within_whole _ u w.lower lw) (within_whole _ v w.upper hw)
      (proper_part _ n w.part (proper_at area values e g h)))
