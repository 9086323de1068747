use native.Mathlib.Omega.{arith}
use Rattle.cell.proofs.Using.{table_most}
use Rattle.cell.proofs.drawing.write_cells.Goals as goal

pub put_few-requires : goal.put_few-requires
put_few-requires c i = omega (arith, c.greatest.ensures i, c.if-greatest-le-FEW_COUNT.true)

pub put_in_all-requires : goal.put_in_all-requires
put_in_all-requires c k = let A = c.args in
    let h = table_most A.tables.counts.now A.tables.sides.now k in
    record { marks_long = h; halves_long = h; points_long = h }
