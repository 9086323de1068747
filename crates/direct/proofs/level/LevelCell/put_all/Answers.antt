use mathlib.Core.List.{◌++◌}
use mathlib.Core.Path.{refl, sym, ap}
use Rattle.counting.proofs.Stored.{stored_as}
use Rattle.cell.specs.Words.{all_words}
use Rattle.direct.specs.claims.Direct.{inwards, on_first, on_second}
use Rattle.direct.proofs.Families.{room_first, room_next, both_stored, direct_is}
use Rattle.direct.proofs.LevelCells.{ready_of}
use Rattle.direct.proofs.level.LevelCell.put_all.Goals as goal

pub put_first-i-requires : goal.put_first-i-requires
put_first-i-requires c = let C = c.args.self.now.cell in
    let P = c.requires.plain in
    let e = direct_is C (ready_of c.args.self.now P.0).plain P.1 in
    record { plain = P.0; self_in_bounds = room_first (on_first C) (on_second C ++ inwards C 3 0 1 2) _ _ (rw e at c.requires.self_in_bounds) }

pub put_second-j-requires : goal.put_second-j-requires
put_second-j-requires c = let C = c.args.self.now.cell in
    let P = c.requires.plain in
    let e = direct_is C (ready_of c.args.self.now P.0).plain P.1 in
    record { plain = P.0; self_in_bounds = room_first (on_second C) (inwards C 3 0 1 2) _ _ (room_next (on_first C) (on_second C ++ inwards C 3 0 1 2) c.put_first-i.ensures (rw e at c.requires.self_in_bounds)) }

pub put_round-requires : goal.put_round-requires
put_round-requires c = let C = c.args.self.now.cell in
    let P = c.requires.plain in
    let e = direct_is C (ready_of c.args.self.now P.0).plain P.1 in
    room_next (on_second C) (inwards C 3 0 1 2) c.put_second-j.ensures (room_next (on_first C) (on_second C ++ inwards C 3 0 1 2) c.put_first-i.ensures (rw e at c.requires.self_in_bounds))

pub returns : goal.returns
returns c = let C = c.args.self.now.cell in
    let P = c.requires.plain in
    let e = direct_is C (ready_of c.args.self.now P.0).plain P.1 in
    stored_as (both_stored (on_first C) (on_second C ++ inwards C 3 0 1 2) c.put_first-i.ensures (both_stored (on_second C) (inwards C 3 0 1 2) c.put_second-j.ensures c.put_round.ensures)) (ap all_words (sym e)) refl
