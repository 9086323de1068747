use Rattle.counting.specs.Lists.{over}
use Rattle.split.proofs.Arms.{four_places}
use Rattle.split.proofs.spots.corners_of.Goals as goal

pub returns : goal.returns
unfolding over
returns c = four_places c.load.ensures c.load-2.ensures c.load-3.ensures c.load-4.ensures
