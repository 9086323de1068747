use Rattle.std.proofs.Common.{◌*◌, sym, ◌∙◌, arith}
use Rattle.counting.proofs.Stored.{stored_room, stored_not}
use Rattle.place.specs.Place.{coordinates, numbers}
use Rattle.place.proofs.Numbers.{sets_three}
use Rattle.place.proofs.store.Goals as goal

pub returns-then-area-k : goal.returns-then-area-k
returns-then-area-k c = let a = c.args in (stored_not a.area.now (coordinates * a.k) (numbers a.p) (omega (arith, c.if-area-k.true))).0

pub returns : goal.returns
returns c = let a = c.args in sets_three a.area.now (coordinates * a.k) a.p.x a.p.y a.p.z ∙ sym (stored_room a.area.now (coordinates * a.k) (numbers a.p) (omega (arith, c.if-area-k.false))).area
