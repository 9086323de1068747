use Rattle.counting.proofs.Stored.{filled_none}
use Rattle.grid.proofs.Tellings.{thirds_more}
use Rattle.grid.proofs.numbering.thirds.Goals as goal

pub loop-c-init : goal.loop-c-init
loop-c-init c = filled_none _ _

pub loop-c-preserved : goal.loop-c-preserved
loop-c-preserved c = thirds_more c.args.labels.now c.args.out.now c.loop-c.out c.loop-c.c c.loop-c.invariant
