-- The middles of nested loops of length 8 (02, W3). The rule is a function of a cell, the places of its four nodes and a loop.
use Rattle.std.specs.Prelude.{ℕ, ◌+◌, ◌*◌, ◌-◌, ◌/◌, Bool, not, ◌&&◌, List, [], ◌∷◌, eqb, ltb, Float}
use Rattle.std.specs.Float.{binary64}
use Rattle.std.specs.Float.Ieee.{add, sub, mul, div}
use Rattle.counting.specs.Pick.{pick}
use Rattle.counting.specs.Lists.{tally, over}
use Rattle.counting.specs.Search.{first, some}
use Rattle.slots.specs.Slots.{lo, hi}
use Rattle.place.specs.declared.Place.{Place}
use Rattle.place.specs.Place.{float_of, middle}
use Rattle.cell.specs.declared.Cell.{Cell}
use Rattle.cell.specs.Cell.{crossings, number}
use Rattle.cell.specs.Of.{count_of, edges_of}
use Rattle.cell.specs.Loop.{loop_size, dart, leasts}
use Rattle.cell.specs.Level.{is_level_cell}
use Rattle.cell.specs.Middles.{half_sum, is_fan, loop_point, corner_place}
use Rattle.booking.specs.Booking.{least_corner, left_between}

module _ (c : Cell) where
  -- how many loops have length 8, and how many are no triangles
  unfoldable pub octagons : ℕ
  octagons = tally (λ p. eqb (loop_size (edges_of c) p) 8) (leasts (edges_of c))

  unfoldable pub other_loops : ℕ
  other_loops = tally (λ p. not (eqb (loop_size (edges_of c) p) 3)) (leasts (edges_of c))

  -- rule 1 alone on the faces, and each loop that is no triangle has length 8; there are m > 1 of these
  unfoldable pub is_nested : Bool
  is_nested = is_level_cell (count_of c) && (eqb other_loops octagons && ltb 1 octagons)

  -- E: the first edge that keeps 2 * m crossings beside those of the corner triangles
  unfoldable pub axis_edge : ℕ
  axis_edge = first (λ e. eqb (left_between (count_of c) (lo e) (hi e)) (2 * octagons)) 6

  -- the crossing of E that has the number r of those that remain, from 0 at its lower node
  unfoldable pub remaining : ℕ → ℕ
  remaining r = number (edges_of c) axis_edge (least_corner (count_of c) (lo axis_edge) + r)

  -- the loop from p goes through that crossing
  unfoldable pub through : (p r : ℕ) → Bool
  through p r = some (λ k. eqb (dart (edges_of c) p k / 2) (remaining r)) (loop_size (edges_of c) p)

  -- i, below m: the loop from p goes through number m + i
  unfoldable pub nest_number : ℕ → ℕ
  nest_number p = first (λ i. through p (octagons + i)) octagons

-- a + (b − a) × f
abbrev pub towards : (a b f : Float) → Float
towards a b f = add binary64 a (mul binary64 (sub binary64 b a) f)

abbrev pub point_onward : (a b : Place) (f : Float) → Place
point_onward a b f = record { x = towards a.x b.x f; y = towards a.y b.y f; z = towards a.z b.z f }

-- A + (B − A) × ((i + 1) / (m + 1)), for the loop from p: A and B are half the sums of the end places of E and of its opposite, 5 - E
unfoldable pub nested_middle : (corner : ℕ → Place) (c : Cell) → ℕ → Place
nested_middle corner c p =
    point_onward (half_sum corner (axis_edge c)) (half_sum corner (5 - axis_edge c)) (div binary64 (float_of (nest_number c p + 1)) (float_of (octagons c + 1)))

-- the middles of a cell's fans, where the places of nodes are listed and the crossings are at `place`
module _ (nodes : List Float) (place : ℕ → Place) (c : Cell) where
  -- of the loop from p, where it is drawn as a fan: in a nest by W3, else the mean of its points (01)
  unfoldable pub placed_middle : ℕ → List Place
  placed_middle p =
      pick (is_fan c p) (pick (is_nested c) (nested_middle (corner_place nodes c) c p) (middle (λ k. place (loop_point c p k)) (loop_size (edges_of c) p)) ∷ []) []

  unfoldable pub placed_middles : List Place
  placed_middles = over placed_middle (crossings (edges_of c)) 0
