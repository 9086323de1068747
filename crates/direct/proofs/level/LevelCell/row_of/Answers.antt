use native.Mathlib.Omega.{arith}
use borrow.Author.Tests.{lt-ltb, le-ltb}
use Rattle.direct.proofs.level.LevelCell.row_of.Goals as goal

pub returns-then-a-b : goal.returns-then-a-b
returns-then-a-b c = record { first_is = c.number_at-first.ensures; falls_is = rw (lt-ltb c.args.a c.args.b c.if-a-b.true) }

pub returns-else-a-b : goal.returns-else-a-b
returns-else-a-b c = record { first_is = c.number_at-first.ensures; falls_is = rw (le-ltb c.args.a c.args.b (omega (arith, c.if-a-b.false))) }
