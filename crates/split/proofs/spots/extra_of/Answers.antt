use mathlib.Core.Path.{refl}
use Rattle.counting.proofs.Stored.{summed_none, summed_more}
use Rattle.split.proofs.Spotted.{spots_at}
use Rattle.split.proofs.spots.extra_of.Goals as goal

pub loop-c-init : goal.loop-c-init
loop-c-init c = (summed_none _ _, summed_none _ _)

pub loop-c-preserved : goal.loop-c-preserved
loop-c-preserved c = let A = c.args in
    let L = c.loop-c in
    let p = c.spots_at-p.ensures in
    let g = spots_at A.tables.cells.now A.tables.counts.now A.tables.names.now A.tables.sides.now A.tables.starts.now L.c refl p in (
      summed_more _ _ L.invariant.0 _ g.0 p.few_inner,
      summed_more _ _ L.invariant.1 _ g.1 p.few_more,
    )
