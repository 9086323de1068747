use mathlib.Core.Path.{refl}
use native.Mathlib.Omega.{arith}
use Rattle.direct.proofs.Numbers.{up_fits, up_is, down_room, down_fits, down_is}
use Rattle.direct.proofs.level.LevelCell.number_at.Goals as goal

pub overflow_add-result : goal.overflow_add-result
overflow_add-result c = omega (arith, up_fits c.args.self.now.listed c.requires c.joining_of-e.ensures)

pub returns-then-a-b : goal.returns-then-a-b
returns-then-a-b c = up_is c.args.self.now.listed c.requires c.joining_of-e.ensures c.if-a-b.true

pub overflow_sub-result : goal.overflow_sub-result
overflow_sub-result c = omega (arith, down_room c.args.self.now.listed c.requires c.joining_of-e.ensures refl)

pub overflow_sub-result-2 : goal.overflow_sub-result-2
overflow_sub-result-2 c = omega (arith, down_room c.args.self.now.listed c.requires c.joining_of-e.ensures refl)

pub overflow_add-result-2 : goal.overflow_add-result-2
overflow_add-result-2 c = omega (arith, down_fits c.args.self.now.listed c.requires c.joining_of-e.ensures refl)

pub returns : goal.returns
returns c = down_is c.args.self.now.listed c.requires c.joining_of-e.ensures refl (omega (arith, c.if-a-b.false))
