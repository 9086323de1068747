use mathlib.Core.Path.{refl}
use Rattle.shading.proofs.Forests.{halved_as}
use Rattle.shading.proofs.links.halve.Goals as goal

pub returns : goal.returns
returns c = let a = c.args in
    let P = c.requires in
    halved_as a.links.now a.y P _ refl _ refl
