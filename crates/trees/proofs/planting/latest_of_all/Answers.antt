use native.Mathlib.Omega.{arith}
use Rattle.trees.specs.work.Keys.{key_in}
use Rattle.trees.proofs.Trees.{top_le}
use Rattle.trees.proofs.planting.latest_of_all.Goals as goal

pub returns-then-forest-eq0 : goal.returns-then-forest-eq0
returns-then-forest-eq0 g c = let f = c.args.forest.now in omega (arith, top_le (key_in f.keys.now.now) f.count c.args.key)
