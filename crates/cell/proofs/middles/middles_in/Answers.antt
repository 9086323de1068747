use mathlib.Core.Path.{sym, ◌∙◌}
use Rattle.cell.proofs.Using.{used_none, used_then, used_sized, sized_given}
use Rattle.cell.proofs.Fans.{fits_room, middles_done, middles_not, no-middles}
use Rattle.cell.proofs.middles.middles_in.Goals as goal

pub returns-then-n-eq0 : goal.returns-then-n-eq0
returns-then-n-eq0 c = let A = c.args in record { value = no-middles A.nodes.now A.c A.area.now A.at (sym c.requires.all ∙ c.if-n-eq0.true); used = used_none _ _ _ _ }

pub write_all-requires : goal.write_all-requires
write_all-requires c = let A = c.args in
    let h = c.has_room.ensures in
    record { room = sized_given (used_sized h.used) c.requires; middles_room = fits_room A.c A.area.now A.at (sym h.value ∙ c.if-has_room.true) }

pub returns-then-has_room : goal.returns-then-has_room
returns-then-has_room c = let A = c.args in
    let h = c.has_room.ensures in
    let w = c.write_all.ensures in
    record { value = middles_done A.nodes.now A.c A.area.now A.at (fits_room A.c A.area.now A.at (sym h.value ∙ c.if-has_room.true)) w.stored; used = used_then h.used w.used }

pub returns : goal.returns
returns c = let A = c.args in
    let h = c.has_room.ensures in
    record { value = middles_not A.nodes.now A.c A.area.now A.at (sym h.value ∙ c.if-has_room.false); used = h.used }
