use Prim.Native.Nat.{◌-◌}
use Rattle.cell.specs.claims.Table.{table_cell}
use Rattle.cell.proofs.Fits.{all_put}
use Rattle.split.proofs.drawing.put_stretch.Goals as goal

pub returns : goal.returns
returns c = let A = c.args in
    let w = c.write_cells.ensures in
    rw (w.0, w.1) (all_put (table_cell A.tables.cells.now A.tables.counts.now A.tables.names.now A.tables.sides.now A.tables.starts.now) A.c A.area.now A.at (A.end - A.c) c.requires)
