-- A flat grid as it is lent: its three lists.
use Rattle.flat.specs.FlatGrid.{FlatGrid, flat_of}
use Rattle.flat.specs.declared.FlatGrid.{FlatGrid as LentGrid}

abbrev pub lent : LentGrid → FlatGrid
lent g = flat_of g.triangles.now g.edges.now g.counts.now
