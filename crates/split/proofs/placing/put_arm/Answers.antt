use mathlib.Core.Path.{ap, ◌∙◌}
use native.Mathlib.Omega.{arith}
use Rattle.counting.proofs.Stored.{stored_long}
use Rattle.place.specs.Place.{part_of, between}
use Rattle.split.proofs.Arms.{points_none, points_more}
use Rattle.split.proofs.placing.put_arm.Goals as goal

pub loop-h-init : goal.loop-h-init
loop-h-init c = let A = c.args in points_none (λ h. between A.a A.v (part_of h A.n)) A.i A.area.now

pub loop-h-preserved : goal.loop-h-preserved
loop-h-preserved c = let A = c.args in
    let L = c.loop-h in
    let p = c.interpolate-p.result in
    points_more (λ h. between A.a A.v (part_of h A.n)) A.i L.h L.invariant (omega (arith, c.requires, stored_long L.invariant))
    (c.interpolate-p.ensures ∙ ap (between A.a A.v) c.part_of.ensures)
    c.store.ensures
