-- A cell's nest, the middle of a recorded loop, and room for the middles of a cell.
use Rattle.std.specs.Prelude.{ℕ, ◌+◌, ◌-◌, ◌*◌, ◌≤◌, ◌<◌, ◌≡◌, Bool, true, List, [], ◌∷◌, Option, Some, None, eqb, length, get_or, Float}
use Rattle.counting.specs.Pick.{pick}
use Rattle.counting.specs.Lists.{values}
use Rattle.place.specs.declared.Place.{Place}
use Rattle.place.specs.Place.{middle, coordinates, place_at}
use Rattle.manifold.specs.Shape.{has_middle}
use Rattle.cell.specs.declared.Cell.{Cell}
use Rattle.cell.specs.declared.Nest.{Nest}
use Rattle.cell.specs.work.Limits.{most_sum}
use Rattle.cell.specs.Of.{count_of}
use Rattle.cell.specs.claims.Half.{edge_of}
use Rattle.cell.specs.claims.Nests.{greatest_of, nest_edge, nest_count, nest_low, on_axis}
use Rattle.cell.specs.claims.Middles.{fan_count, is_placeable}
use Rattle.cell.specs.Middles.{corner_place}

-- the greatest number of a recorded loop on edge e; 0 where it has none
unfoldable pub highest_on : (halves points : List ℕ) → ℕ → ℕ
highest_on halves points e = greatest_of (λ k. pick (eqb (edge_of (get_or halves k 0)) e) (get_or points k 0) 0) (length halves)

-- the cell, whose counts are listed, has a nest on edge e
pub record NestOn (c : Cell) (six : List ℕ) (e : ℕ) : Type 0 where
  pub six_are : six ≡ values (count_of c) 6
  pub edge_is : e ≡ nest_edge (count_of c)
  pub edge_lt : e < 3

-- q is the nest of the cell, which has one: its edge; how many loops it has, few enough to be counted, and the number of the crossing m of that edge
pub record NestOf (c : Cell) (q : Nest) : Type 0 where
  pub edge_is : q.edge ≡ nest_edge (count_of c)
  pub edge_lt : q.edge < 3
  pub count_is : q.count ≡ nest_count (count_of c)
  pub low_is : q.low ≡ nest_low c
  pub few : q.count ≤ most_sum

-- the same, where it may have none
abbrev pub IsNest : Cell → Option Nest → Type 0
IsNest c (Some q) = NestOf c q
IsNest c None = nest_edge (count_of c) ≡ 3

-- the middle of a recorded loop of the cell c, by the places of nodes and those of an area's points
unfoldable pub recorded_nested : Cell → Nest → (nodes : List Float) (halves points : List ℕ) → Place
recorded_nested c q nodes halves points = on_axis (corner_place nodes c) q.edge (highest_on halves points q.edge - q.low) q.count

unfoldable pub recorded_place : Cell → Option Nest → (nodes : List Float) (halves points : List ℕ) (area : List Float) → Place
recorded_place c (Some q) nodes halves points area = recorded_nested c q nodes halves points
recorded_place c None nodes halves points area = middle (λ k. place_at area (get_or points k 0)) (length points)

-- where the loop, normal or not, is drawn as a fan
unfoldable pub recorded_middle : Cell → Option Nest → (nodes : List Float) (halves points : List ℕ) (normal : Bool) (area : List Float) → List Place
recorded_middle c q nodes halves points normal area = pick (has_middle (length points) normal) (recorded_place c q nodes halves points area ∷ []) []

-- the cell's middles can be written from point `at` on, and have room there
pub record MiddlesRoom (c : Cell) (area : List Float) (at : ℕ) : Type 0 where
  pub below : is_placeable c at ≡ true
  pub room : coordinates * (at + fan_count c) ≤ length area
