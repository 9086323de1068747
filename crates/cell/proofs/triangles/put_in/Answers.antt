use mathlib.Core.Path.{sym, ◌∙◌}
use borrow.Author.Tests.{leb-true, leb-false}
use Rattle.cell.proofs.Fits.{no_room, has-room}
use Rattle.cell.proofs.Using.{used_sized, used_then, sized_given}
use Rattle.cell.proofs.triangles.put_in.Goals as goal

pub write_in-requires : goal.write_in-requires
write_in-requires c = let h = c.has_room.ensures in record { room = sized_given (used_sized h.used) c.requires; c_in_bounds = leb-true _ _ (sym h.value ∙ c.if-has_room.true) }

pub returns-then-has_room : goal.returns-then-has_room
returns-then-has_room c = let h = c.has_room.ensures in
    let R = has-room _ _ _ (leb-true _ _ (sym h.value ∙ c.if-has_room.true)) in
    let W = c.write_in.ensures in
    record { value = (W.value.0 ∙ R.0, W.value.1 ∙ R.1); used = used_then h.used W.used }

pub returns : goal.returns
returns c = let h = c.has_room.ensures in record { value = no_room _ _ _ (leb-false _ _ (sym h.value ∙ c.if-has_room.false)); used = h.used }
