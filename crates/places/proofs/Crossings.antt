-- The crossings' places written one after the other: those of an edge, and those of all edges.
use Prim.Native.Nat.{ℕ, ◌+◌, ◌-◌, ◌*◌, ◌≤◌, ◌<◌}
use mathlib.Core.Path.{◌≡◌, refl, sym, ap, ◌∙◌}
use mathlib.Core.List.{List, [], ◌∷◌, ◌++◌}
use native.Mathlib.Nat.{zero-add}
use native.Mathlib.Numerals.{add-one}
use native.Mathlib.Omega.{arith}
use lib.ListN.{length, get_or}
use lib.Ieee.{Float, nan}
use Rattle.counting.specs.Lists.{gather, over, values}
use Rattle.counting.specs.work.Stored.{Stored}
use Rattle.counting.specs.Stored.{stored_in}
use Rattle.counting.proofs.Range.{over_snoc, over_ext}
use Rattle.counting.proofs.Fronts.{over_split}
use Rattle.counting.proofs.Pack.{row_pack}
use Rattle.counting.proofs.Stored.{stored_none, stored_as}
use Rattle.place.specs.declared.Place.{Place}
use Rattle.place.specs.Place.{between, coordinates, place_at, numbers, all_numbers}
use Rattle.place.proofs.Numbers.{points-then, point_stored}
use Rattle.grid.specs.Grid.{low, high, count_of, start}
use Rattle.places.specs.Points.{edge_of_crossing, crossing_place}
use Rattle.places.specs.work.Work.{on_edge}

module _ (u v : Place) (fractions : List Float) (g : ℕ) where
  pub edge_none : (l : List Float) → Stored l (coordinates * g) (all_numbers (on_edge u v fractions 0 g)) l (coordinates * (g + 0))
  unfolding on_edge over gather
  edge_none l = stored_as (stored_none l (coordinates * g)) refl (omega arith)

  -- one crossing more
  pub edge_more : {was mid : List Float} (i : ℕ) → Stored was (coordinates * g) (all_numbers (on_edge u v fractions i g)) mid (coordinates * (g + i))
      → coordinates * (g + i) + coordinates ≤ length mid → {p : Place} {out : List Float} → p ≡ between u v (get_or fractions (g + i) nan)
      → out ≡ stored_in mid (coordinates * (g + i)) (numbers p)
      → Stored was (coordinates * g) (all_numbers (on_edge u v fractions (i + 1) g)) out (coordinates * (g + (i + 1)))
  unfolding on_edge
  edge_more i S room {p} e q =
      let f : ℕ → List Place = λ x. between u v (get_or fractions x nan) ∷ [] in
      stored_as (points-then (over f i g) (p ∷ []) S (point_stored (g + i) p room q))
      (ap all_numbers (ap (λ (x : Place). over f i g ++ (x ∷ [])) e ∙ sym (ap (λ n. over f n g) (add-one i) ∙ over_snoc f i g))) (omega arith)

module _ (edges counts : List ℕ) (nodes fractions : List Float) where
  abbrev place_of : ℕ → Place
  place_of g = crossing_place edges counts nodes fractions g

  -- those of edge e
  on-edge : (e : ℕ) → e < length counts
      → on_edge (place_at nodes (low edges e)) (place_at nodes (high edges e)) fractions (count_of counts e) (start counts e)
      ≡ over (λ g. place_of g ∷ []) (count_of counts e) (start counts e)
  unfolding on_edge crossing_place edge_of_crossing start
  on-edge e h =
      over_ext _ _ (count_of counts e) (start counts e)
      (λ q a b.
      let i = q - start counts e in
      let z : q ≡ start counts e + i = omega arith in
      let r : edge_of_crossing counts q ≡ e = ap (edge_of_crossing counts) z ∙ row_pack (count_of counts) (length counts) e i h (omega arith) in
      rw r)

  pub all_none : (l : List Float) → Stored l 0 (all_numbers (values place_of 0)) l (coordinates * 0)
  unfolding over gather
  all_none l = stored_none l 0

  pub all_more : {was mid out : List Float} {m k : ℕ} (e g n : ℕ) {u v : Place} → Stored was 0 (all_numbers (values place_of g)) mid m
      → e < length counts → g ≡ start counts e → n ≡ count_of counts e → u ≡ place_at nodes (low edges e) → v ≡ place_at nodes (high edges e)
      → Stored mid m (all_numbers (on_edge u v fractions n g)) out k → Stored was 0 (all_numbers (values place_of (g + n))) out k
  all_more e g n {u} {v} S h s m a b T =
      let f : ℕ → List Place = λ x. place_of x ∷ [] in
      let w : on_edge u v fractions n g ≡ over f n g = rw (a, b, m, s) (on-edge e h) in
      stored_as (points-then (over f g 0) (on_edge u v fractions n g) S T) (ap all_numbers (ap (λ (x : List Place). over f g 0 ++ x) (w ∙ ap (over f n) (sym (zero-add g))) ∙ sym (over_split f g n 0))) refl
