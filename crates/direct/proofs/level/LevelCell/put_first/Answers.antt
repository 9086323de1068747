use mathlib.Core.List.{◌++◌}
use Rattle.direct.specs.claims.Direct.{outwards, inwards, quads_on_first, on_first}
use Rattle.direct.proofs.Families.{room_first, room_next, both_stored}
use Rattle.direct.proofs.level.LevelCell.put_first.Goals as goal

pub put_round-i-requires : goal.put_round-i-requires
unfolding on_first
put_round-i-requires c = let C = c.args.self.now.cell in room_first (outwards C 0 1 2 3) (quads_on_first C ++ inwards C 1 0 2 3) _ _ c.requires.self_in_bounds

pub put_quads-j-requires : goal.put_quads-j-requires
unfolding on_first
put_quads-j-requires c = let C = c.args.self.now.cell in
    record { plain = c.requires.plain; self_in_bounds = room_first (quads_on_first C) (inwards C 1 0 2 3) _ _ (room_next (outwards C 0 1 2 3) (quads_on_first C ++ inwards C 1 0 2 3) c.put_round-i.ensures c.requires.self_in_bounds) }

pub put_round-requires : goal.put_round-requires
unfolding on_first
put_round-requires c = let C = c.args.self.now.cell in
    room_next (quads_on_first C) (inwards C 1 0 2 3) c.put_quads-j.ensures (room_next (outwards C 0 1 2 3) (quads_on_first C ++ inwards C 1 0 2 3) c.put_round-i.ensures c.requires.self_in_bounds)

pub returns : goal.returns
unfolding on_first
returns c = let C = c.args.self.now.cell in
    both_stored (outwards C 0 1 2 3) (quads_on_first C ++ inwards C 1 0 2 3) c.put_round-i.ensures (both_stored (quads_on_first C) (inwards C 1 0 2 3) c.put_quads-j.ensures c.put_round.ensures)
