use Rattle.cell.proofs.Using.{table_few}
use Rattle.cell.proofs.fanning.few_middles.Goals as goal

pub middles_in_all-requires : goal.middles_in_all-requires
middles_in_all-requires c k = let A = c.args in
    let h = table_few A.tables.counts.now A.tables.sides.now k c.requires in
    record { marks_long = h; halves_long = h; points_long = h }
