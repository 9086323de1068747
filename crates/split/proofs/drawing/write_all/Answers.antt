use mathlib.Core.Path.{◌∙◌}
use native.Mathlib.Omega.{arith}
use Rattle.cell.proofs.Storing.{length_all}
use Rattle.cell.proofs.Fits.{has-room}
use Rattle.split.specs.work.Table.{table_drawn}
use Rattle.split.proofs.drawing.write_all.Goals as goal

pub returns : goal.returns
returns c = let A = c.args in
    let m = table_drawn A.tables.cells.now A.tables.counts.now A.tables.names.now A.tables.sides.now A.tables.starts.now in
    let w = c.put_cells.ensures in
    (omega (arith, w.after, length_all m), w.area ∙ (has-room m A.area.now 0 (omega (arith, c.requires.starts_in_bounds))).1)
