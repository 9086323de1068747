use Rattle.std.proofs.Common.{sym, arith}
use Rattle.trees.specs.work.Keys.{key_in}
use Rattle.trees.proofs.Planted.{key_there, key_beyond}
use Rattle.trees.proofs.planting.RefSliceUsizeKeys.key.Goals as goal

pub returns-then-place-self : goal.returns-then-place-self
returns-then-place-self c = sym (key_there (key_in c.args.self.now.now) _ c.args.place c.if-place-self.true)

pub returns-else-place-self : goal.returns-else-place-self
returns-else-place-self c = sym (key_beyond (key_in c.args.self.now.now) _ c.args.place (omega (arith, c.if-place-self.false)))
