use Rattle.cell.proofs.Ready.{to_low}
use Rattle.cell.proofs.steps.below.Goals as goal

pub round-requires : goal.round-requires
round-requires c = record { routed = c.requires.ready.routed; turns = rw (c.route-g.ensures, c.route-rank.ensures) (to_low c.requires.ready c.requires.at_low) }
