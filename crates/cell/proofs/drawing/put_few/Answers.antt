use Rattle.cell.proofs.Using.{table_few}
use Rattle.cell.proofs.drawing.put_few.Goals as goal

pub put_in_all-requires : goal.put_in_all-requires
put_in_all-requires c k = let A = c.args in
    let h = table_few A.tables.counts.now A.tables.sides.now k c.requires in
    record { marks_long = h; halves_long = h; points_long = h }
