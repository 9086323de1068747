use native.Mathlib.Omega.{arith}
use Rattle.cell.proofs.Using.{table_most}
use Rattle.cell.proofs.fanning.write_middles.Goals as goal

pub few_middles-requires : goal.few_middles-requires
few_middles-requires c i = omega (arith, c.greatest.ensures i, c.if-greatest-le-FEW_COUNT.true)

pub middles_in_all-requires : goal.middles_in_all-requires
middles_in_all-requires c k = let A = c.args in
    let h = table_most A.tables.counts.now A.tables.sides.now k in
    record { marks_long = h; halves_long = h; points_long = h }
