use lib.ListN.{get_or}
use Rattle.counting.proofs.Stored.{filled_more, filled_none}
use Rattle.grid.specs.work.Work.{lower_place}
use Rattle.grid.proofs.tables.write_names.Goals as goal

pub loop-j-init : goal.loop-j-init
loop-j-init c = filled_none _ _

pub loop-j-preserved : goal.loop-j-preserved
loop-j-preserved c = let c-args = c.args in
    let c-loop = c.loop-j in
    filled_more (λ j. lower_place j (get_or c-args.across.now j 0)) _ _ _ _ c-loop.invariant c.lower.ensures.value
