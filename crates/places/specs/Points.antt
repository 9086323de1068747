-- The points of a placed mesh (01; 02, W12): its crossings by number, the inner crossings of its cells by cell and number, and then the middles of its
-- fans in mesh order.
use Rattle.std.specs.Prelude.{ℕ, List, ◌++◌, length, get_or, Float}
use Rattle.std.specs.Float.{nan}
use Rattle.counting.specs.Lists.{over, values}
use Rattle.counting.specs.Pack.{row, col}
use Rattle.place.specs.declared.Place.{Place}
use Rattle.place.specs.Place.{between, place_at}
use Rattle.grid.specs.Grid.{Grid, cell_count, low, high, count_of, crossings}
use Rattle.mesh.specs.Mesh.{grid_cell}
use Rattle.split.specs.Standing.{inner_places, drawn_middles}
use Rattle.places.specs.Nested.{nested_middle, placed_middles}

module _ (counts : List ℕ) where
  -- the edge and the index of the crossing number g
  unfoldable pub edge_of_crossing : ℕ → ℕ
  edge_of_crossing g = row (count_of counts) (length counts) g

  unfoldable pub index_of_crossing : ℕ → ℕ
  index_of_crossing g = col (count_of counts) (length counts) g

module _ (edges counts : List ℕ) (nodes fractions : List Float) where
  -- where crossing g is placed: on its edge, from the lower end to the higher by its fraction
  unfoldable pub crossing_place : ℕ → Place
  crossing_place g = between (place_at nodes (low edges (edge_of_crossing counts g))) (place_at nodes (high edges (edge_of_crossing counts g))) (get_or fractions g nan)

module _ (G : Grid) (nodes fractions : List Float) where
  unfoldable pub inner_points : List Place
  inner_points = over (λ c. inner_places nodes (grid_cell G c)) (cell_count G.cells) 0

  -- those of a cell that is split are all middles of nests (W3), by its parts
  unfoldable pub middles : List Place
  middles =
      over (λ c. drawn_middles nodes (grid_cell G c) nested_middle (placed_middles nodes (crossing_place G.edges G.counts nodes fractions) (grid_cell G c))) (cell_count G.cells) 0

  unfoldable pub points : List Place
  points = values (crossing_place G.edges G.counts nodes fractions) (crossings G.counts) ++ (inner_points ++ middles)
