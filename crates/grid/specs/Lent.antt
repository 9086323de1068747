-- A grid as it is lent: its four lists.
use Rattle.grid.specs.Grid.{Grid, grid_of}
use Rattle.grid.specs.declared.Grid.{Grid as LentGrid}

abbrev pub lent : LentGrid → Grid
lent g = grid_of g.cells.now g.edges.now g.counts.now g.starts.now
