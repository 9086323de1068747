use native.Mathlib.Omega.{arith}
use Rattle.counting.specs.Lists.{over}
use Rattle.counting.proofs.Stored.{stored_none, stored_more}
use Rattle.cell.proofs.Storing.{words_of}
use Rattle.split.proofs.Tables.{drawn_at, next_room, stretch_room, stretch_written, all_written}
use Rattle.split.proofs.drawing.put_cells.Goals as goal

pub loop-s-init : goal.loop-s-init
unfolding over
loop-s-init c = (omega arith, stored_none _ 0)

pub put_stretch-i-requires : goal.put_stretch-i-requires
put_stretch-i-requires c = let A = c.args in
    stretch_room A.tables.cells.now A.tables.counts.now A.tables.names.now A.tables.sides.now A.tables.starts.now c.loop-s.invariant.1 c.requires.starts_in_bounds c.in-Some.ensures.1 (omega (arith, c.drawn-n.ensures))

pub put_at-i-requires : goal.put_at-i-requires
put_at-i-requires c = let A = c.args in
    let P = c.requires in
    let R = c.in-Some.ensures in
    let h = R.1.after R.0 in
    let S = stretch_written A.tables.cells.now A.tables.counts.now A.tables.names.now A.tables.sides.now A.tables.starts.now c.loop-s.invariant.1 P.starts_in_bounds R.1 (omega (arith, c.drawn-n.ensures)) c.put_stretch-i.ensures in
    record { splits_value = h.1; s_in_bounds = next_room A.tables.cells.now A.tables.counts.now A.tables.names.now A.tables.sides.now A.tables.starts.now S P.starts_in_bounds (omega (arith, h.0, c.drawn-n.ensures)) }

pub loop-s-preserved : goal.loop-s-preserved
loop-s-preserved c = let A = c.args in
    let R = c.in-Some.ensures in
    let S = stretch_written A.tables.cells.now A.tables.counts.now A.tables.names.now A.tables.sides.now A.tables.starts.now c.loop-s.invariant.1 c.requires.starts_in_bounds R.1 (omega (arith, c.drawn-n.ensures)) c.put_stretch-i.ensures in
    (omega (arith, (R.1.after R.0).0), stored_more (words_of (drawn_at A.tables.cells.now A.tables.counts.now A.tables.names.now A.tables.sides.now A.tables.starts.now)) _ S c.put_at-i.ensures)

pub put_stretch-requires : goal.put_stretch-requires
put_stretch-requires c = let A = c.args in
    stretch_room A.tables.cells.now A.tables.counts.now A.tables.names.now A.tables.sides.now A.tables.starts.now c.loop-s.invariant.1 c.requires.starts_in_bounds c.in_default.ensures (omega (arith, c.drawn-n.ensures))

pub returns : goal.returns
returns c = let A = c.args in
    let P = c.requires in
    let S = stretch_written A.tables.cells.now A.tables.counts.now A.tables.names.now A.tables.sides.now A.tables.starts.now c.loop-s.invariant.1 P.starts_in_bounds c.in_default.ensures (omega (arith, c.drawn-n.ensures)) c.put_stretch.ensures in
    all_written A.tables.cells.now A.tables.counts.now A.tables.names.now A.tables.sides.now A.tables.starts.now S P.starts_in_bounds (omega (arith, c.drawn-n.ensures))
