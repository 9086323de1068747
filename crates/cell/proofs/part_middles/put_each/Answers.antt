use mathlib.Core.Path.{sym, ◌∙◌}
use Rattle.cell.proofs.Using.{used_then, used_sized, sized_given}
use Rattle.cell.proofs.Fans.{fits_room, middles_done, middles_not}
use Rattle.cell.proofs.part_middles.put_each.Goals as goal

pub write_each-requires : goal.write_each-requires
write_each-requires c = let A = c.args in
    let h = c.has_room.ensures in
    record { room = sized_given (used_sized h.used) c.requires; middles_room = fits_room A.c A.area.now A.at (sym h.value ∙ c.if-has_room.true) }

pub returns-then-has_room : goal.returns-then-has_room
returns-then-has_room c = let A = c.args in
    let h = c.has_room.ensures in
    let w = c.write_each.ensures in
    record { value = middles_done A.nodes.now A.c A.area.now A.at (fits_room A.c A.area.now A.at (sym h.value ∙ c.if-has_room.true)) w.stored; used = used_then h.used w.used }

pub returns : goal.returns
returns c = let A = c.args in
    let h = c.has_room.ensures in
    record { value = middles_not A.nodes.now A.c A.area.now A.at (sym h.value ∙ c.if-has_room.false); used = h.used }
