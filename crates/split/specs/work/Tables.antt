-- What contracts say of the tables that a grid's cells are read from: how these are split, and what is drawn of them.
use Rattle.std.specs.Prelude.{ℕ, List, Option, Float}
use Rattle.place.specs.declared.Place.{Place}
use Rattle.cell.specs.declared.Tables.{Tables}
use Rattle.cell.specs.declared.Triangle.{Triangle}
use Rattle.cell.specs.work.Tables.{drawn_in}
use Rattle.split.specs.declared.SplitCell.{SplitCell}
use Rattle.split.specs.work.Table.{table_drawn, table_splits}
use Rattle.split.specs.work.Gains.{AreSums, IsNext, loop_words, splits_at}
use Rattle.split.specs.work.Spots.{AreExtra, inner_at_cell, middles_at_cell}

module _ (t : Tables) where
  -- the splits of cell c, and the words of the triangles of the loops of n cells from c on
  abbrev pub splits_in_cell : ℕ → ℕ
  splits_in_cell = splits_at t.counts.now t.sides.now

  abbrev pub words_of_loops : (c n : ℕ) → List ℕ
  words_of_loops = loop_words t.cells.now t.counts.now t.names.now t.sides.now t.starts.now

  -- the next cell from c on, below n, that is split
  abbrev pub NextSplit : (c n : ℕ) → Option SplitCell → Type 0
  NextSplit = IsNext t.counts.now t.sides.now

  -- what all cells come to, and what their splits do
  abbrev pub SumsOf : (crossings splits more : ℕ) → Type 0
  SumsOf = AreSums t.counts.now t.sides.now (drawn_in t)

  abbrev pub ExtraOf : (inner fans : ℕ) → Type 0
  ExtraOf = AreExtra t.counts.now t.sides.now (drawn_in t)

  -- the triangles that are drawn of all cells, and the splits that are made in them
  abbrev pub triangles_drawn : List Triangle
  triangles_drawn = table_drawn t.cells.now t.counts.now t.names.now t.sides.now t.starts.now

  abbrev pub splits_made : ℕ
  splits_made = table_splits t.cells.now t.counts.now t.names.now t.sides.now t.starts.now

  -- the points of the cells, as they are written: inner crossings, and middles
  abbrev pub inner_in_cell : List Float → ℕ → List Float → ℕ → List Place
  inner_in_cell = inner_at_cell t.cells.now t.counts.now t.names.now t.sides.now t.starts.now

  abbrev pub middles_in_cell : List Float → ℕ → List Float → ℕ → List Place
  middles_in_cell = middles_at_cell t.cells.now t.counts.now t.names.now t.sides.now t.starts.now
