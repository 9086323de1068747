use native.Mathlib.Omega.{arith}
use Rattle.booking.proofs.Totals.{all_counted, all_most}
use Rattle.booking.proofs.tables.count_all.Goals as goal

pub totals_of-totals-requires : goal.totals_of-totals-requires
totals_of-totals-requires c = tt

pub count_others-requires : goal.count_others-requires
count_others-requires c = c.totals_of-totals.ensures.crossings_are

pub returns : goal.returns
returns c = let A = c.args.tables in
    let T = c.totals_of-totals.ensures in
    let n = c.count_others.ensures.0 in
    let sum = all_counted A.cells.now A.counts.now A.names.now A.sides.now A.starts.now in
    let most = all_most A.cells.now A.counts.now A.names.now A.sides.now A.starts.now in
    (omega (arith, T, n, sum), omega (arith, T, n, sum, most))
