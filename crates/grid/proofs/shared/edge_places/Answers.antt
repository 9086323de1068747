use Rattle.counting.specs.work.Tables.{same_key}
use Rattle.trees.specs.work.Trees.{has_key}
use Rattle.trees.specs.work.Keys.{pair_has, pair_lacks, paired_at, place_room}
use Rattle.grid.specs.work.Shared.{edge_key, key_room, keyless, placed_at, with_key}
use Rattle.grid.proofs.shared.edge_places.Goals as goal

pub returns : goal.returns
unfolding edge_key key_room keyless placed_at with_key pair_has pair_lacks paired_at place_room same_key has_key
returns c = record { value = c.pairs_of.ensures.value; places_after = c.pairs_of.ensures.places_after }
