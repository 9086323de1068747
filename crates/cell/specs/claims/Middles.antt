-- The middles of a cell's fans (01; 02, W3), and what is left where they are written among the points of an area.
use Rattle.std.specs.Prelude.{ℕ, ◌+◌, ◌*◌, ◌/◌, Bool, ◌||◌, List, [], ◌∷◌, ltb, leb, Float}
use Rattle.counting.specs.Pick.{pick}
use Rattle.counting.specs.Lists.{over}
use Rattle.counting.specs.Search.{every, count}
use Rattle.counting.specs.Stored.{stored_in}
use Rattle.counting.specs.claims.Lists.{next_in}
use Rattle.place.specs.declared.Place.{Place}
use Rattle.place.specs.Place.{middle, coordinates, place_at, all_numbers}
use Rattle.cell.specs.declared.Cell.{Cell}
use Rattle.cell.specs.Cell.{crossings}
use Rattle.cell.specs.Of.{count_of, start_of, edges_of}
use Rattle.cell.specs.Loop.{loop_size}
use Rattle.cell.specs.claims.Nests.{nest_edge, nest_middle}
use Rattle.cell.specs.Middles.{is_fan, loop_point, corner_place}

-- how many fans a cell has
unfoldable pub fan_count : Cell → ℕ
fan_count c = count (is_fan c) (crossings (edges_of c))

-- the middles of fans, where the places of nodes are listed and the crossings are at `place`
module _ (nodes : List Float) (place : ℕ → Place) (c : Cell) where
  -- of the loop from the crossing p: in a nest its own place on the axis, else the mean of its points
  unfoldable pub fan_middle : ℕ → Place
  fan_middle p = pick (ltb (nest_edge (count_of c)) 3) (nest_middle (corner_place nodes c) c p) (middle (λ k. place (loop_point c p k)) (loop_size (edges_of c) p))

  -- where it is drawn as a fan
  unfoldable pub loop_middle : ℕ → List Place
  loop_middle p = pick (is_fan c p) (fan_middle p ∷ []) []

  unfoldable pub cell_middles : List Place
  cell_middles = over loop_middle (crossings (edges_of c)) 0

-- the cell's crossings have numbers below n
unfoldable pub numbered_below : Cell → ℕ → Bool
numbered_below c n = every (λ e. leb (start_of c e + count_of c e) n) 6

-- its middles can be written from point n on: the places of its crossings stand before that point, or its fans are those of a nest
unfoldable pub is_placeable : Cell → ℕ → Bool
is_placeable c n = numbered_below c n || ltb (nest_edge (count_of c)) 3

module _ (nodes : List Float) (c : Cell) (area : List Float) (at : ℕ) where
  -- the middles to be written from point `at` on: the cell's, where they can be; else none
  unfoldable pub middles_at : List Place
  middles_at = pick (is_placeable c at) (cell_middles nodes (place_at area) c) []

  -- the area then, with them where they have room; and the next point
  unfoldable pub points_then : List Float
  points_then = stored_in area (coordinates * at) (all_numbers middles_at)

  unfoldable pub next_point : ℕ
  next_point = next_in area (coordinates * at) (all_numbers middles_at) / coordinates
