-- What contracts say of the tables that a grid's points are made from.
use Rattle.std.specs.Prelude.{ℕ, List, Float}
use Rattle.counting.specs.Lists.{total}
use Rattle.cell.specs.declared.Tables.{Tables}
use Rattle.cell.specs.work.Tables.{drawn_in}
use Rattle.split.specs.work.Spots.{inner_in}
use Rattle.places.specs.work.Work.{rest_written, PlacesReady, PointsIn}

module _ (t : Tables) where
  -- how many inner crossings all cells have, and what is left where these and the middles are written
  abbrev pub inner_all : ℕ
  inner_all = total (inner_in t.counts.now t.sides.now) (drawn_in t) 0

  abbrev pub rest_put : (nodes area : List Float) (at : ℕ) → List Float × ℕ
  rest_put = rest_written t.cells.now t.counts.now t.names.now t.sides.now t.starts.now

  -- the tables are those of an accepted grid with n crossings, and the points of all cells
  abbrev pub ReadyTables : (edges : List ℕ) (n : ℕ) → Type 0
  ReadyTables = PlacesReady t.cells.now t.counts.now t.names.now t.sides.now t.starts.now

  abbrev pub PointsOf : (edges : List ℕ) (nodes fractions before after : List Float) (answer : List ℕ) → Type 0
  PointsOf = PointsIn t.cells.now t.counts.now t.names.now t.sides.now t.starts.now
