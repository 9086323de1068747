use native.Mathlib.Omega.{arith}
use Rattle.counting.proofs.Stored.{summed_none, summed_more}
use Rattle.cell.proofs.Using.{table_most}
use Rattle.split.proofs.Few.{at_few, at_more, gain_at, crossings-at}
use Rattle.split.proofs.drawing.sums_of.Goals as goal

pub loop-c-init : goal.loop-c-init
loop-c-init c = (summed_none _ _, summed_none _ _, summed_none _ _)

pub overflow_add-more : goal.overflow_add-more
overflow_add-more c = let A = c.args in
    let L = c.loop-c in
    let g = gain_at A.counts.now A.sides.now L.c c.counts_at-six.ensures c.gain_of-g.ensures in
    omega (arith, g, at_more A.counts.now A.sides.now L.c, L.invariant.2.few, c.drawn-n.ensures)

pub loop-c-preserved : goal.loop-c-preserved
loop-c-preserved c = let A = c.args in
    let L = c.loop-c in
    let e = c.counts_at-six.ensures in
    let g = gain_at A.counts.now A.sides.now L.c e c.gain_of-g.ensures in
    let x = crossings-at A.counts.now A.sides.now L.c e c.crossings_in-crossings.ensures.0 in (
      summed_more _ _ L.invariant.0 _ x (omega (arith, x, table_most A.counts.now A.sides.now L.c)),
      summed_more _ _ L.invariant.1 _ g.0 (omega (arith, g, at_few A.counts.now A.sides.now L.c)),
      summed_more _ _ L.invariant.2 _ g.1 (omega (arith, g, at_more A.counts.now A.sides.now L.c)),
    )
