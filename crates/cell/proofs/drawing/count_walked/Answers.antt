use native.Mathlib.Omega.{arith}
use Rattle.cell.proofs.Using.{table_few, table_most}
use Rattle.cell.proofs.drawing.count_walked.Goals as goal

pub walked_in_all-requires : goal.walked_in_all-requires
walked_in_all-requires c k = let A = c.args in
    let h = table_few A.tables.counts.now A.tables.sides.now k (λ i. omega (arith, c.greatest.ensures i)) in
    record { marks_long = h; halves_long = h; points_long = h }

pub walked_in_all-requires-2 : goal.walked_in_all-requires-2
walked_in_all-requires-2 c k = let A = c.args in
    let h = table_most A.tables.counts.now A.tables.sides.now k in
    record { marks_long = h; halves_long = h; points_long = h }
