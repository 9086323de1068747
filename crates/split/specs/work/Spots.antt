-- The points of split cells: how many there are, and what is left where they are written to an area.
use Rattle.std.specs.Prelude.{ℕ, zero, suc, ◌+◌, ◌*◌, ◌/◌, ◌≤◌, ◌<◌, ◌≡◌, List, [], ◌∷◌, length, Float}
use Rattle.counting.specs.Gcd.{gcd}
use Rattle.counting.specs.Pick.{pick}
use Rattle.counting.specs.Lists.{total, gather}
use Rattle.counting.specs.Stored.{stored_in}
use Rattle.counting.specs.claims.Lists.{next_in}
use Rattle.slots.specs.Limits.{most_count, most_cells}
use Rattle.place.specs.declared.Place.{Place}
use Rattle.place.specs.Place.{coordinates, all_numbers}
use Rattle.cell.specs.declared.Cell.{Cell}
use Rattle.cell.specs.Of.{count_of}
use Rattle.cell.specs.work.Route.{Near}
use Rattle.cell.specs.claims.Nests.{nest_edge, nest_middle}
use Rattle.cell.specs.claims.Middles.{middles_at}
use Rattle.cell.specs.Level.{by_edge}
use Rattle.cell.specs.claims.Table.{table_cell, taken_counts}
use Rattle.booking.specs.Figures.{figure, inner_crossings}
use Rattle.booking.specs.Booking.{larger, smaller, is_split}
use Rattle.split.specs.Standing.{standing, inner_of, fans_of, inner_places, drawn_middles}
use Rattle.split.specs.work.Working.{SplitsLeft}

-- of c, a cell or the sub-cell with the number n of the cell `cell`, whose nodes are at `at`: the inner crossings, and the middles of the fans
module _ (cell n b f : ℕ) (at : List Place) (c : Cell) where
  unfoldable pub standing_inner : List Place
  standing_inner = gather inner_of (standing (larger (count_of c) + smaller (count_of c)) cell n b f at c)

  unfoldable pub standing_fans : List Place
  standing_fans = gather (fans_of nest_middle) (standing (larger (count_of c) + smaller (count_of c)) cell n b f at c)

-- a nest, with six starts within their limit
pub record Nesting (c : Cell) : Type 0 where
  pub near : Near c
  pub starts_six : length c.starts ≡ 6
  pub nest : nest_edge (count_of c) < 3

-- the nodes numbered by position
unfoldable pub positioned : Cell → Cell
positioned c = record { counts = c.counts; starts = c.starts; names = c.names; nodes = 0 ∷ 1 ∷ 2 ∷ 3 ∷ []; index = c.index }

-- the splits that are left of a cell that is split: its numbers have a common divisor above 1
pub record Spun (c : Cell) (cell n b f left : ℕ) : Type 0 where
  pub working : SplitsLeft c cell n b f left
  pub divisor : 1 < gcd (larger (count_of c)) (smaller (count_of c))

-- how many fans the splits add
abbrev pub added_fans : ℕ → ℕ → ℕ
added_fans x y = figure (λ n. 0) (λ x y. y) x y

-- from the counts of a cell: its inner crossings, and how many fans it has more by its splits
module _ (w : ℕ → ℕ) where
  unfoldable pub inner_by : ℕ
  inner_by = pick (is_split w) (inner_crossings (larger w) (smaller w)) 0

  unfoldable pub fans_by : ℕ
  fans_by = pick (is_split w) (added_fans (larger w) (smaller w)) 0

-- the most inner crossings of a cell, and more than the fans that splits add to it
abbrev pub most_inner : ℕ
most_inner = 2 * (most_count * most_count)

-- the points of a cell that is split, by numbers: inner crossings, fans that splits add, and fans that it has without
pub record AreSpots (c : Cell) (inner more loops : ℕ) : Type 0 where
  pub inner_are : inner ≡ inner_by (count_of c)
  pub more_are : more ≡ fans_by (count_of c)
  pub loops_are : loops ≡ pick (is_split (count_of c)) (gcd (larger (count_of c)) (smaller (count_of c))) 0
  pub few_inner : inner ≤ most_inner
  pub few_more : more ≤ most_inner
  pub few_loops : loops ≤ most_count

-- points stored in an area from point `at` on, where they have room there; and the next point
abbrev pub points_stored : (area : List Float) (at : ℕ) (ps : List Place) → List Float × ℕ
points_stored area at ps = (stored_in area (coordinates * at) (all_numbers ps), next_in area (coordinates * at) (all_numbers ps) / coordinates)

-- the same for n cells one after the other: `f` has the points of cell c, for the area and the next point as they are then
unfoldable pub cells_stored : (f : ℕ → List Float → ℕ → List Place) (area : List Float) (at n : ℕ) → List Float × ℕ
cells_stored f area at zero = (area, at)
cells_stored f area at (suc n) = let w = cells_stored f area at n in points_stored w.0 w.1 (f n w.0 w.1)

module _ (counts sides : List ℕ) where
  unfoldable pub inner_in : ℕ → ℕ
  inner_in c = inner_by (by_edge (taken_counts counts sides c))

  unfoldable pub added_in : ℕ → ℕ
  added_in c = fans_by (by_edge (taken_counts counts sides c))

  -- those of n cells
  pub record AreExtra (n inner fans : ℕ) : Type 0 where
    pub inner_are : inner ≡ total inner_in n 0
    pub fans_are : fans ≡ total added_in n 0
    pub few_inner : inner ≤ most_inner * most_cells
    pub few_fans : fans ≤ most_inner * most_cells

-- the points of the cells of the tables, as they are written: inner crossings, and middles by counts
module _ (cells counts names sides starts : List ℕ) (nodes : List Float) where
  abbrev pub inner_at_cell : ℕ → List Float → ℕ → List Place
  inner_at_cell c area at = inner_places nodes (table_cell cells counts names sides starts c)

  abbrev pub middles_at_cell : ℕ → List Float → ℕ → List Place
  middles_at_cell c area at =
      let v = table_cell cells counts names sides starts c in
      drawn_middles nodes v nest_middle (middles_at nodes v area at)
