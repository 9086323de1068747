-- A grid as it is lent, without its starts.
use Rattle.grid.specs.Grid.{Grid, built}
use Rattle.grid.specs.declared.Grid.{Grid as LentGrid}

-- the grid that is built afresh from the lent cells, edges and counts
abbrev pub rebuilt : LentGrid → Grid
rebuilt g = built g.cells.now g.edges.now g.counts.now
