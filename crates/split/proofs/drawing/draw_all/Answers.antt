use native.Mathlib.Omega.{arith}
use Rattle.cell.proofs.Fits.{no_room}
use Rattle.booking.proofs.Totals.{all_few}
use Rattle.split.specs.work.Table.{table_drawn}
use Rattle.split.proofs.Tables.{drawn_long}
use Rattle.split.proofs.drawing.draw_all.Goals as goal
use Rattle.split.proofs.drawing.draw_all.Goals.{then-area-s+else-area-t, else-area-s}

pub returns-then-area-t : goal.returns-then-area-t
returns-then-area-t c = let A = c.args in
    let G = c.requires in
    let n = c.count_all.ensures in
    let d = drawn_long A.tables.cells.now A.tables.counts.now A.tables.names.now A.tables.sides.now A.tables.starts.now in
    (omega (arith, n, G, d), (no_room (table_drawn A.tables.cells.now A.tables.counts.now A.tables.names.now A.tables.sides.now A.tables.starts.now) A.area.now 0 (omega (arith, n, G, d, c.if-area-t.true))).1)

pub write_all-requires : goal.write_all-requires
write_all-requires c = let A = c.args in
    let G = c.requires in
    let d = drawn_long A.tables.cells.now A.tables.counts.now A.tables.names.now A.tables.sides.now A.tables.starts.now in
    let few = all_few A.tables.cells.now A.tables.counts.now A.tables.names.now A.tables.sides.now A.tables.starts.now in
    record { splits_value = G.splits_are; starts_in_bounds = elim c.if-area-s.branch [ then-area-s+else-area-t w ↦ omega (arith, w.count_all.ensures, w.if-area-t.false, G, d) | else-area-s w ↦ omega (arith, few, G, d, w.if-area-s.false) ] }
