use Prim.Native.Nat.{◌-◌}
use native.Mathlib.Omega.{arith}
use Rattle.trees.proofs.Trees.{top_le}
use Rattle.trees.proofs.planting.grow.Goals as goal

pub overflow_cast-tops : goal.overflow_cast-tops
overflow_cast-tops g c = let k = g.K.Placed in
    omega (arith, c.plant_one.ensures.value, top_le (k.key_at c.args.keys.now) (k.places c.args.keys.now) (k.key_at c.args.keys.now (c.loop-i.i - 1)), c.requires.few)
