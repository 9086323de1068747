use mathlib.Core.Path.{refl}
use Rattle.cell.proofs.Route.{slot_fronts}
use Rattle.cell.proofs.routes.put_slot.Goals as goal

pub returns : goal.returns
returns c = let r = c.corners_of-corners.ensures in
    slot_fronts c.requires.slot_runs _ _ _ _ refl refl refl r
    c.put_front.ensures c.put_front-2.ensures c.put_front-3.ensures
