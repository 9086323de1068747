use Rattle.split.proofs.Tables.{splits_drawable}
use Rattle.split.proofs.drawing.put_at.Goals as goal

pub put_cell-requires : goal.put_cell-requires
put_cell-requires c = let A = c.args in
    let P = c.requires in
    let e = c.cell_at-c.ensures in
    record { drawable = splits_drawable A.tables.cells.now A.tables.counts.now A.tables.names.now A.tables.sides.now A.tables.starts.now A.s.index e P.splits_value; c_in_bounds = rw e P.s_in_bounds }
