use native.Mathlib.Omega.{arith}
use lib.ListN.{length}
use Rattle.split.specs.work.Table.{table_drawn, table_splits}
use Rattle.mesh.proofs.Rooms.{answer_short, answer_fits}
use Rattle.mesh.proofs.draw.Goals as goal

pub returns-then-area-d : goal.returns-then-area-d
returns-then-area-d c = let d = c.draw-d.ensures in
    let A = c.args in
    let m = table_drawn A.tables.cells.now A.tables.counts.now A.tables.names.now A.tables.sides.now A.tables.starts.now in
    let s = table_splits A.tables.cells.now A.tables.counts.now A.tables.names.now A.tables.sides.now A.tables.starts.now in
    record { answered = rw (c.at.ensures, d.triangles_value.0) (answer_short m s (length A.area.now) (omega (arith, d.triangles_value.0))); area = d.area_after }

pub returns : goal.returns
returns c = let d = c.draw-d.ensures in
    let A = c.args in
    let m = table_drawn A.tables.cells.now A.tables.counts.now A.tables.names.now A.tables.sides.now A.tables.starts.now in
    let s = table_splits A.tables.cells.now A.tables.counts.now A.tables.names.now A.tables.sides.now A.tables.starts.now in
    record { answered = rw (d.triangles_value.0, d.triangles_value.1) (answer_fits m s (length A.area.now) (omega (arith, d.triangles_value.0))); area = d.area_after }
