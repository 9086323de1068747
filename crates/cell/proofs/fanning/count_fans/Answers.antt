use native.Mathlib.Omega.{arith}
use Rattle.cell.proofs.Using.{table_few, table_most}
use Rattle.cell.proofs.fanning.count_fans.Goals as goal

pub fans_in_all-requires : goal.fans_in_all-requires
fans_in_all-requires c k = let A = c.args in
    let h = table_few A.tables.counts.now A.tables.sides.now k (λ i. omega (arith, c.greatest.ensures i)) in
    record { marks_long = h; halves_long = h; points_long = h }

pub fans_in_all-requires-2 : goal.fans_in_all-requires-2
fans_in_all-requires-2 c k = let A = c.args in
    let h = table_most A.tables.counts.now A.tables.sides.now k in
    record { marks_long = h; halves_long = h; points_long = h }
