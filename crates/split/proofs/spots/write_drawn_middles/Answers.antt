use native.Mathlib.Omega.{arith}
use Rattle.split.specs.work.Spots.{middles_at_cell}
use Rattle.split.proofs.Spotted.{cells_none, cells_more, cells_all, stretch_middles}
use Rattle.split.proofs.spots.write_drawn_middles.Goals as goal

pub loop-s-init : goal.loop-s-init
loop-s-init c = let A = c.args in (omega arith, cells_none (middles_at_cell A.tables.cells.now A.tables.counts.now A.tables.names.now A.tables.sides.now A.tables.starts.now A.nodes.now) A.area.now A.at)

pub loop-s-preserved : goal.loop-s-preserved
loop-s-preserved c = let A = c.args in
    let R = c.in-Some.ensures in
    let S = stretch_middles A.tables.cells.now A.tables.counts.now A.tables.names.now A.tables.sides.now A.tables.starts.now A.nodes.now A.area.now A.at c.loop-s.c c.loop-s.invariant.1 R.1 c.write_middles-i.ensures in
    (omega (arith, (R.1.after R.0).0), cells_more (middles_at_cell A.tables.cells.now A.tables.counts.now A.tables.names.now A.tables.sides.now A.tables.starts.now A.nodes.now) A.area.now A.at _ S c.middles_at-i.ensures)

pub returns : goal.returns
returns c = let A = c.args in
    let S = stretch_middles A.tables.cells.now A.tables.counts.now A.tables.names.now A.tables.sides.now A.tables.starts.now A.nodes.now A.area.now A.at c.loop-s.c c.loop-s.invariant.1 c.in_default.ensures c.write_middles.ensures in
    cells_all (middles_at_cell A.tables.cells.now A.tables.counts.now A.tables.names.now A.tables.sides.now A.tables.starts.now A.nodes.now) A.area.now A.at _ S c.drawn-n.ensures
