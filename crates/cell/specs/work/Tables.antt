-- What contracts say of the tables that a grid's cells are read from.
use Rattle.std.specs.Prelude.{ℕ, List, Float}
use Rattle.cell.specs.declared.Cell.{Cell}
use Rattle.cell.specs.declared.Tables.{Tables}
use Rattle.cell.specs.declared.Triangle.{Triangle}
use Rattle.cell.specs.claims.Table.{table_cell, taken_counts, drawn_cells, table_triangles}
use Rattle.cell.specs.work.Table.{walked_at, table_fans, middles_written}

module _ (t : Tables) where
  -- cell c, and the counts of its edges as its loops have them
  abbrev pub cell_in : ℕ → Cell
  cell_in = table_cell t.cells.now t.counts.now t.names.now t.sides.now t.starts.now

  abbrev pub counts_in : ℕ → List ℕ
  counts_in = taken_counts t.counts.now t.sides.now

  -- how many cells are drawn, and how many triangles cell c has where they are counted by a walk
  abbrev pub drawn_in : ℕ
  drawn_in = drawn_cells t.cells.now

  abbrev pub walked_in : ℕ → ℕ
  walked_in = walked_at t.cells.now t.counts.now t.names.now t.sides.now t.starts.now

  -- the triangles of all cells, how many fans these have, and what is left where their middles are written
  abbrev pub triangles_all : List Triangle
  triangles_all = table_triangles t.cells.now t.counts.now t.names.now t.sides.now t.starts.now

  abbrev pub fans_all : ℕ
  fans_all = table_fans t.cells.now t.counts.now t.names.now t.sides.now t.starts.now

  abbrev pub middles_put : (nodes : List Float) (first : ℕ) (area : List Float) (at n : ℕ) → List Float × ℕ
  middles_put = middles_written t.cells.now t.counts.now t.names.now t.sides.now t.starts.now
