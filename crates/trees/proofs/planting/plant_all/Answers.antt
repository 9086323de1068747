use Rattle.std.proofs.Common.{arith}
use Rattle.trees.specs.work.Keys.{key_in}
use Rattle.trees.proofs.Planted.{tree_blank}
use Rattle.trees.proofs.planting.plant_all.Goals as goal

pub invariant_of-result : goal.invariant_of-result
invariant_of-result g c =
    let T = c.grow.ensures.tree in
    record { within = omega arith; grown = λ h. record { some = c.requires.some; tree = T }; blank = λ z. tree_blank _ (key_in c.args.keys.now.now) _ _ _ T z }
