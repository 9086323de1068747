use Rattle.cell.proofs.Ready.{to_high}
use Rattle.cell.proofs.steps.above.Goals as goal

pub round-requires : goal.round-requires
round-requires c = record { routed = c.requires.ready.routed; turns = rw (c.route-g.ensures, c.route-rank.ensures) (to_high c.requires.ready _ c.requires.at_high) }
