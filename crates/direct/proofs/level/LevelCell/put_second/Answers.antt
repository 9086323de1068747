use mathlib.Core.Path.{refl, sym, ap, ◌∙◌}
use Rattle.counting.proofs.Stored.{stored_as}
use Rattle.cell.specs.Words.{all_words}
use Rattle.direct.specs.claims.Direct.{acrosses, inwards}
use Rattle.direct.proofs.Families.{some_first, room_first, room_next, both_stored, left_first, left_second, second_quads, second_none}
use Rattle.direct.proofs.LevelCells.{ready_of}
use Rattle.direct.proofs.level.LevelCell.put_second.Goals as goal

pub put_across-i-requires : goal.put_across-i-requires
put_across-i-requires c = let C = c.args.self.now.cell in
    let R = ready_of c.args.self.now c.requires.plain in
    let z = sym (left_first R c.left_of.ensures) ∙ c.if-left_of-eq0.true in
    record { parting = (z, left_second R c.left_of-n.ensures); nodes_in_bounds = room_first (acrosses C 0 1 2 3) (inwards C 2 0 1 3) _ _ (rw (second_quads R z) at c.requires.self_in_bounds) }

pub put_round-requires : goal.put_round-requires
put_round-requires c = let C = c.args.self.now.cell in
    let R = ready_of c.args.self.now c.requires.plain in
    let z = sym (left_first R c.left_of.ensures) ∙ c.if-left_of-eq0.true in
    room_next (acrosses C 0 1 2 3) (inwards C 2 0 1 3) c.put_across-i.ensures (rw (second_quads R z) at c.requires.self_in_bounds)

pub returns-then-left_of-eq0 : goal.returns-then-left_of-eq0
returns-then-left_of-eq0 c = let C = c.args.self.now.cell in
    let R = ready_of c.args.self.now c.requires.plain in
    let z = sym (left_first R c.left_of.ensures) ∙ c.if-left_of-eq0.true in
    stored_as (both_stored (acrosses C 0 1 2 3) (inwards C 2 0 1 3) c.put_across-i.ensures c.put_round.ensures) (ap all_words (sym (second_quads R z))) refl

pub put_round-requires-2 : goal.put_round-requires-2
put_round-requires-2 c = let R = ready_of c.args.self.now c.requires.plain in
    let z = some_first R c.left_of.ensures (λ q. c.if-left_of-eq0.false q) in
    rw (second_none R z) at c.requires.self_in_bounds

pub returns : goal.returns
returns c = let R = ready_of c.args.self.now c.requires.plain in
    let z = some_first R c.left_of.ensures (λ q. c.if-left_of-eq0.false q) in
    stored_as c.put_round-2.ensures (ap all_words (sym (second_none R z))) refl
