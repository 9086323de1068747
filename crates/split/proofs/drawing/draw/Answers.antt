use native.Mathlib.Omega.{arith}
use Rattle.booking.proofs.Totals.{all_most}
use Rattle.split.proofs.Tables.{splits_all, drawn_long}
use Rattle.split.proofs.drawing.draw.Goals as goal

pub returns : goal.returns
returns c = let A = c.args in
    let G = c.sums_of-s.ensures in
    let d = c.draw_all-triangles.ensures in
    let s = splits_all A.tables.cells.now A.tables.counts.now A.tables.names.now A.tables.sides.now A.tables.starts.now in
    let n = drawn_long A.tables.cells.now A.tables.counts.now A.tables.names.now A.tables.sides.now A.tables.starts.now in
    let most = all_most A.tables.cells.now A.tables.counts.now A.tables.names.now A.tables.sides.now A.tables.starts.now in
    record { triangles_value = (d.0, omega (arith, G.splits_are, s), omega (arith, d.0, n, most, G.more_is, G.few_more)); area_after = d.1 }
