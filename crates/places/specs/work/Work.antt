-- What the call's own functions ask of each other.
use Rattle.std.specs.Prelude.{ℕ, suc, ◌+◌, ◌*◌, ◌/◌, ◌≤◌, ◌<◌, ◌≡◌, Bool, true, not, ◌&&◌, List, [], ◌∷◌, ◌++◌, eqb, length, get_or, replicate, Float}
use Rattle.std.proofs.lemmas.List.Edits.{sets}
use Rattle.std.specs.Float.{nan}
use Rattle.answer.specs.Answer.{is_result}
use Rattle.counting.specs.Pick.{pick}
use Rattle.counting.specs.Lists.{one, over, values}
use Rattle.cell.specs.claims.Nests.{nest_middle}
use Rattle.cell.specs.claims.Middles.{cell_middles, numbered_below}
use Rattle.cell.specs.claims.Table.{table_cell, drawn_cells}
use Rattle.cell.specs.work.Table.{most_triangles}
use Rattle.slots.specs.Limits.{highest_node, most_cells, most_crossings}
use Rattle.grid.specs.Grid.{cell_count, has_node, crossings}
use Rattle.place.specs.declared.Place.{Place}
use Rattle.place.specs.Place.{within, between, coordinates, all_numbers}
use Rattle.split.specs.Standing.{inner_places, drawn_middles}
use Rattle.split.specs.work.Spots.{most_inner, cells_stored, inner_at_cell, middles_at_cell}
use Rattle.places.specs.Points.{crossing_place}
use Rattle.places.specs.Answer.{rows_answer}

-- what the table of nodes starts from: blank, for cells of four nodes within the limit
pub record Markable (cells used : List ℕ) : Type 0 where
  pub fours : length cells ≡ 4 * cell_count cells
  pub nodes : (j : ℕ) → j < length cells → get_or cells j 0 ≤ highest_node
  pub blank : used ≡ replicate (suc highest_node) 0

-- the table has a 1 for each node of a cell, and else 0
pub record NodesMarked (cells used : List ℕ) : Type 0 where
  pub long : length used ≡ suc highest_node
  pub at : (v : ℕ) → v ≤ highest_node → get_or used v 0 ≡ one (has_node cells v)

unfoldable pub is_marked : List ℕ → ℕ → Bool
is_marked used v = eqb (get_or used v 0) 1

-- row 16 by the table
unfoldable pub bad_marked : List ℕ → List Float → ℕ → Bool
bad_marked used nodes i = is_marked used (i / coordinates) && not (within (get_or nodes i nan))

-- the table and the list reach over the first n nodes
pub record Reaching (used : List ℕ) (nodes : List Float) (n : ℕ) : Type 0 where
  pub table : n ≤ length used
  pub list : coordinates * n ≤ length nodes

-- n crossings, and at least one cell, of four nodes within the limit
pub record Judgeable (cells counts : List ℕ) (n : ℕ) : Type 0 where
  pub fours : length cells ≡ 4 * cell_count cells
  pub some : 0 < cell_count cells
  pub nodes : (j : ℕ) → j < length cells → get_or cells j 0 ≤ highest_node
  pub all : n ≡ crossings counts

-- the most points that a grid can have by this count: crossings, fans, and what splits add of both
abbrev pub most_points : ℕ
most_points = most_crossings + most_triangles + 2 * (most_inner * most_cells)

-- n points between u and v, by the fractions from g on
unfoldable pub on_edge : Place → Place → List Float → ℕ → ℕ → List Place
on_edge u v fractions n g = over (λ q. between u v (get_or fractions q nan) ∷ []) n g

-- there is a fraction and room for each of them
pub record Fitting (fractions area : List Float) (n g : ℕ) : Type 0 where
  pub given : g + n ≤ length fractions
  pub room : coordinates * (g + n) ≤ length area

-- two ends to an edge; a fraction for each crossing and room for its place
pub record Placeable (edges counts : List ℕ) (fractions area : List Float) : Type 0 where
  pub pairs : length edges ≡ 2 * length counts
  pub given : length fractions ≡ crossings counts
  pub room : coordinates * crossings counts ≤ length area

-- the points of all cells, from the grid's tables; the middles by counts
module _ (cells counts names sides starts : List ℕ) where
  unfoldable pub table_inner : List Float → List Place
  table_inner nodes = over (λ c. inner_places nodes (table_cell cells counts names sides starts c)) (drawn_cells cells) 0

  abbrev pub table_middles_of : List Float → (ℕ → Place) → ℕ → List Place
  table_middles_of nodes place c =
      let v = table_cell cells counts names sides starts c in
      drawn_middles nodes v nest_middle (cell_middles nodes place v)

  unfoldable pub table_middles : List Float → (ℕ → Place) → List Place
  table_middles nodes place = over (table_middles_of nodes place) (drawn_cells cells) 0

  -- all points
  unfoldable pub table_points : (edges : List ℕ) (nodes fractions : List Float) → List Place
  table_points edges nodes fractions =
      values (crossing_place edges counts nodes fractions) (crossings counts)
      ++ (table_inner nodes ++ table_middles nodes (crossing_place edges counts nodes fractions))

  -- the area and the next point, once the inner crossings and then the middles are written from point `at` on
  unfoldable pub rest_written : (nodes area : List Float) (at : ℕ) → List Float × ℕ
  rest_written nodes area at =
      let w = cells_stored (inner_at_cell cells counts names sides starts nodes) area at (drawn_cells cells) in
      cells_stored (middles_at_cell cells counts names sides starts nodes) w.0 w.1 (drawn_cells cells)

  -- the tables of an accepted grid with n crossings: four nodes to a cell, two ends to an edge, and crossing numbers below n
  pub record PlacesReady (edges : List ℕ) (n : ℕ) : Type 0 where
    pub judged : Judgeable cells counts n
    pub few : n ≤ most_crossings
    pub pairs : length edges ≡ 2 * length counts
    pub below : (c : ℕ) → c < cell_count cells → numbered_below (table_cell cells counts names sides starts c) n ≡ true

  -- the rows' answer for the points, which stand in the area where no row refuses
  pub record PointsIn (edges : List ℕ) (nodes fractions before after : List Float) (answer : List ℕ) : Type 0 where
    pub answered : answer ≡ rows_answer cells counts nodes fractions (length (table_points edges nodes fractions)) (length before)
    pub area : after ≡ pick (is_result answer) (sets before 0 (all_numbers (table_points edges nodes fractions))) before
