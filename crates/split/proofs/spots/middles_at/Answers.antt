use Rattle.split.proofs.Tables.{splits_drawable}
use Rattle.split.proofs.spots.middles_at.Goals as goal

pub put_middles-requires : goal.put_middles-requires
put_middles-requires c = let A = c.args in splits_drawable A.tables.cells.now A.tables.counts.now A.tables.names.now A.tables.sides.now A.tables.starts.now A.s.index c.cell_at-c.ensures c.requires
