use mathlib.Core.Path.{◌≡◌}
use native.Mathlib.Omega.{arith}
use lib.ListN.{get_or}
use Rattle.trees.proofs.Trees.{plant_top, plant_hit, plant_own, plant_new}
use Rattle.trees.proofs.planting.plant_one.Goals as goal

pub returns-then-p-gt0 : goal.returns-then-p-gt0
returns-then-p-gt0 g c = let p = c.requires in
    let f = rw c.key.ensures at c.seek-at.ensures in
    record { value = plant_top _ _ _ _ _ p.one p.tree _ f c.if-p-gt0.true; tree = plant_hit _ _ _ _ _ p.one p.tree _ f c.if-p-gt0.true }

pub returns : goal.returns
returns g c = let p = c.requires in
    let f = rw c.key.ensures at c.seek-at.ensures in
    let z : get_or c.args.links.now c.seek-at.result 0 ≡ 0 = omega (arith, c.if-p-gt0.false) in
    record { value = plant_own _ _ _ _ _ p.one p.tree _ f z; tree = plant_new _ _ _ _ _ p.one p.tree _ f z }
