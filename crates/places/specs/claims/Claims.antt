-- What is claimed of the places call beside its contract.
use Rattle.std.specs.Prelude.{ℕ, ◌*◌, ◌-◌, ◌<◌, ◌≡◌, true, false, not, ◌&&◌, Result, List, ◌++◌, eqb, ltb, length, ℤ, Float}
use Rattle.answer.specs.Answer.{result_of}
use Rattle.answer.specs.declared.Refusal.{Refusal}
use Rattle.grid.specs.Grid.{Grid, cell_count, crossings}
use Rattle.mesh.specs.Mesh.{grid_cell}
use Rattle.counting.specs.Lists.{tally, over, values}
use Rattle.counting.specs.claims.Lists.{All}
use Rattle.slots.specs.Slots.{lo, hi}
use Rattle.place.specs.declared.Place.{Place}
use Rattle.place.specs.Place.{coordinates}
use Rattle.cell.specs.declared.Cell.{Cell}
use Rattle.cell.specs.Of.{count_of, edges_of}
use Rattle.cell.specs.Loop.{loop_size, leasts}
use Rattle.cell.specs.Level.{is_level_cell}
use Rattle.cell.specs.Cell.{crossings as cellCrossings}
use Rattle.cell.specs.Middles.{is_fan}
use Rattle.cell.specs.claims.Middles.{cell_middles}
use Rattle.booking.specs.Booking.{left_between, larger, smaller, is_split}
use Rattle.booking.specs.claims.Claims.{Other}
use Rattle.split.specs.Parts.{Part, whole, corners}
use Rattle.split.specs.Standing.{all_standing}
use Rattle.places.specs.Points.{crossing_place, points}
use Rattle.places.specs.Answer.{places_numbers, places_answer}
use Rattle.places.specs.Exact.{WholeAt}
use Rattle.places.specs.Nested.{octagons, is_nested, axis_edge, nest_number, placed_middles}

-- the numbers tell the answer: no two answers of the call are read as the same numbers
abbrev pub PlacesTold : Type 0
PlacesTold = (G : Grid) (nodes fractions : List Float) (room : ℕ) (r s : Result ℕ Refusal)
    → places_numbers r ≡ places_answer G nodes fractions room → places_numbers s ≡ places_answer G nodes fractions room → r ≡ s

-- the exact case is not empty: an input that is not refused, with a crossing, and whole numbers for each crossing and number
pub record ExactHappens : Type 0 where
  pub grid : Grid
  pub nodes : List Float
  pub fractions : List Float
  pub area : List Float
  pub placed : (values : List ℕ) × (places_answer grid nodes fractions (length area) ≡ result_of values)
  pub some : 0 < crossings grid.counts
  pub whole : (g t : ℕ) → g < crossings grid.counts → t < coordinates → (u : ℤ) × (v : ℤ) × (k : ℤ) × WholeAt grid.edges grid.counts nodes fractions g t u v k

-- the nests of 02 are the cells with rule 1 alone and d1 = d2 = m > 1
abbrev pub NestedByCounts : Type 0
NestedByCounts =
    (c : Cell) → is_nested c ≡ (is_level_cell (count_of c) && (eqb (larger (count_of c)) (smaller (count_of c)) && ltb 1 (smaller (count_of c))))

pub record NestLaws (c : Cell) : Type 0 where
  -- m is d1; E and its opposite keep 2 * m
  pub many : octagons c ≡ larger (count_of c)
  pub keeps : left_between (count_of c) (lo (axis_edge c)) (hi (axis_edge c)) ≡ 2 * octagons c
  pub opposite : left_between (count_of c) (lo (5 - axis_edge c)) (hi (5 - axis_edge c)) ≡ 2 * octagons c
  -- each loop that is no triangle has an i below m, and each i is that of one loop
  pub below : (p : ℕ) → Other (edges_of c) p → nest_number c p < octagons c
  pub once : (i : ℕ) → i < octagons c → tally (λ p. not (eqb (loop_size (edges_of c) p) 3) && eqb (nest_number c p) i) (leasts (edges_of c)) ≡ 1

abbrev pub EachOnce : Type 0
EachOnce = (c : Cell) → is_nested c ≡ true → NestLaws c

-- the rule by counts, by which the code goes, gives the same middles for every cell and all places
abbrev pub NestsAgree : Type 0
NestsAgree = (nodes : List Float) (place : ℕ → Place) (c : Cell) → cell_middles nodes place c ≡ placed_middles nodes place c

-- of a part: each loop that is drawn as a fan is one of a nest, so that it has a middle of W3 and none is a mean; corner triangles are no fans
abbrev pub FansNested : Part → Type 0
FansNested (whole c) = (p : ℕ) → p < cellCrossings (edges_of c) → is_fan c p ≡ true → is_nested c ≡ true
FansNested (corners c) = Unit {0}

-- so are all fans of a split cell (02, W12)
abbrev pub SplitNested : Type 0
SplitNested = (nodes : List Float) (c : Cell) → is_split (count_of c) ≡ true → All (λ s. FansNested s.part) (all_standing nodes c)

-- without split cells there are no inner crossings, and the middles are those of W3 and of 01
abbrev pub UnsplitPlaced : Type 0
UnsplitPlaced = (G : Grid) (nodes fractions : List Float) → ((c : ℕ) → c < cell_count G.cells → is_split (count_of (grid_cell G c)) ≡ false)
    → points G nodes fractions
    ≡ values (crossing_place G.edges G.counts nodes fractions) (crossings G.counts)
    ++ over (λ c. placed_middles nodes (crossing_place G.edges G.counts nodes fractions) (grid_cell G c)) (cell_count G.cells) 0
