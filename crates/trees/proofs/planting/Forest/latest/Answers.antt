use native.Mathlib.Omega.{arith}
use Rattle.trees.proofs.Trees.{top_le}
use Rattle.trees.proofs.planting.Forest.latest.Goals as goal

pub returns-then-self-eq0 : goal.returns-then-self-eq0
returns-then-self-eq0 g c = let f = c.args.self.now in omega (arith, top_le (g.K.Keys.key_at f.keys.now) f.count c.args.key)
