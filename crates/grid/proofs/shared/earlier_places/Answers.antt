use Rattle.counting.specs.work.Tables.{same_key}
use Rattle.trees.specs.work.Trees.{has_key}
use Rattle.trees.specs.work.Keys.{earlier_in, place_room}
use Rattle.grid.specs.work.Shared.{earlier_at, key_room}
use Rattle.grid.proofs.shared.earlier_places.Goals as goal

pub returns : goal.returns
unfolding earlier_at key_room earlier_in place_room same_key has_key
returns c = c.earlier_of.ensures
