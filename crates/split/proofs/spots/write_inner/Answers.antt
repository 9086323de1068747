use mathlib.Core.Path.{ap, ◌∙◌}
use Rattle.split.specs.Standing.{inner_places}
use Rattle.split.specs.work.Spots.{points_stored, inner_at_cell}
use Rattle.split.proofs.Tables.{table_drawable}
use Rattle.split.proofs.Spotted.{cells_none, cells_more}
use Rattle.split.proofs.spots.write_inner.Goals as goal

pub loop-c-init : goal.loop-c-init
loop-c-init c = let A = c.args in cells_none (inner_at_cell A.tables.cells.now A.tables.counts.now A.tables.names.now A.tables.sides.now A.tables.starts.now A.nodes.now) A.area.now A.at

pub put_inner-i-requires : goal.put_inner-i-requires
put_inner-i-requires c = let A = c.args in
    table_drawable A.tables.cells.now A.tables.counts.now A.tables.names.now A.tables.sides.now A.tables.starts.now c.loop-c.c c.cell_at-v.ensures c.counts_at.ensures c.gain_of-splits.ensures

pub loop-c-preserved : goal.loop-c-preserved
loop-c-preserved c = let A = c.args in
    let L = c.loop-c in
    let nodes = A.nodes.now in
    cells_more (inner_at_cell A.tables.cells.now A.tables.counts.now A.tables.names.now A.tables.sides.now A.tables.starts.now nodes) A.area.now A.at L.c L.invariant
    (c.put_inner-i.ensures ∙ ap (λ v. points_stored L.area L.i (inner_places nodes v)) c.cell_at-v.ensures)
