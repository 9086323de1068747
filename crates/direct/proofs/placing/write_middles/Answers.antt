use mathlib.Core.Path.{ap, ◌∙◌}
use native.Mathlib.Omega.{arith}
use Rattle.cell.specs.work.Tables.{middles_put}
use Rattle.cell.proofs.Fans.{written_none, written_long}
use Rattle.direct.proofs.Over.{written_on, written-over}
use Rattle.direct.proofs.placing.write_middles.Goals as goal

pub loop-k-init : goal.loop-k-init
loop-k-init c = let A = c.args in
    ((omega arith, omega arith), omega arith, written_none A.tables.cells.now A.tables.counts.now A.tables.names.now A.tables.sides.now A.tables.starts.now A.nodes.now A.c A.area.now A.at)

pub shape_of-area-then-end-p : goal.shape_of-area-then-end-p
shape_of-area-then-end-p c = let A = c.args in
    let L = c.loop-k in
    written_long A.tables.cells.now A.tables.counts.now A.tables.names.now A.tables.sides.now A.tables.starts.now A.nodes.now A.c A.area.now A.at L.k L.invariant.2

pub returns-then-end-p : goal.returns-then-end-p
returns-then-end-p c = let A = c.args in
    let L = c.loop-k in
    let P = c.pass_over-p.ensures in
    written-over A.tables.cells.now A.tables.counts.now A.tables.names.now A.tables.sides.now A.tables.starts.now A.nodes.now A.c A.area.now A.at L.invariant.0.0 P L.invariant.2
    ∙ ap (middles_put A.tables A.nodes.now A.c A.area.now A.at) (omega (arith, P.upto, P.from, L.invariant.0))

pub overflow_sub-p : goal.overflow_sub-p
overflow_sub-p c = omega (arith, c.pass_over-p.ensures.from)

pub next_block-b-requires : goal.next_block-b-requires
next_block-b-requires c = c.loop-k.invariant.1

pub block_end-e-requires : goal.block_end-e-requires
block_end-e-requires c = (c.next_block-b.ensures.0, omega (arith, c.if-end-p.false))

pub loop-k-smaller : goal.loop-k-smaller
loop-k-smaller c = omega (arith, c.block_end-e.ensures, c.pass_over-p.ensures.from)

pub loop-k-preserved : goal.loop-k-preserved
loop-k-preserved c = let A = c.args in
    let L = c.loop-k in
    let P = c.pass_over-p.ensures in
    let E = c.block_end-e.ensures in
    let W = written-over A.tables.cells.now A.tables.counts.now A.tables.names.now A.tables.sides.now A.tables.starts.now A.nodes.now A.c A.area.now A.at L.invariant.0.0 P L.invariant.2 in
    ((omega (arith, L.invariant.0, P.from, E), omega (arith, E)), c.next_block-b.ensures.1, written_on A.tables.cells.now A.tables.counts.now A.tables.names.now A.tables.sides.now A.tables.starts.now A.nodes.now A.c A.area.now A.at (omega (arith, L.invariant.0, P.from)) (omega (arith, E)) W c.write_middles-i.ensures)

pub shape_of-area : goal.shape_of-area
shape_of-area c = let A = c.args in
    let L = c.loop-k in
    written_long A.tables.cells.now A.tables.counts.now A.tables.names.now A.tables.sides.now A.tables.starts.now A.nodes.now A.c A.area.now A.at L.k L.invariant.2

pub returns : goal.returns
returns c = let A = c.args in
    let L = c.loop-k in
    L.invariant.2 ∙ ap (middles_put A.tables A.nodes.now A.c A.area.now A.at) (omega (arith, L.invariant.0))
