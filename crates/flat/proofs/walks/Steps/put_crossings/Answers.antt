use mathlib.Core.Path.{refl}
use native.Mathlib.Omega.{arith}
use Rattle.flat.proofs.Walked.{list_more, listing_all, listing_none, mark_more, marking_all, marking_none}
use Rattle.flat.proofs.walks.Steps.put_crossings.Goals as goal

pub loop-i-init : goal.loop-i-init
loop-i-init c = (listing_none _ _ _ _ _ _, marking_none _ _ _ _ _ c.requires.n_in_bounds)

pub loop-i-preserved : goal.loop-i-preserved
loop-i-preserved c = let c-loop = c.loop-i in
    let c-pre = c.requires in
    (list_more c.args.self.table c-pre.darts_from c-loop.invariant.0 (omega arith) _ refl, mark_more c.args.self.table c-pre.darts_from c-loop.invariant.1 (omega arith) _ refl)

pub returns : goal.returns
returns c = record { area_after = listing_all _ _ c.loop-i.invariant.0 (omega arith); marked_on = marking_all _ _ c.loop-i.invariant.1 (omega arith) }
