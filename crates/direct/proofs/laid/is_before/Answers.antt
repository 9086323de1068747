use mathlib.Core.Path.{sym, ◌∙◌}
use native.Mathlib.Omega.{arith}
use borrow.Author.Tests.{ne_eqb, le-ltb}
use Rattle.cell.specs.Of.{edges_of}
use Rattle.cell.proofs.Route.{ahead_same, ahead_other}
use Rattle.direct.proofs.laid.is_before.Goals as goal

pub returns-then-a-b : goal.returns-then-a-b
returns-then-a-b c = ahead_other (edges_of c.args.c) c.args.k c.args.j (omega arith)

pub returns-then-a-b-2 : goal.returns-then-a-b-2
returns-then-a-b-2 c = ahead_same (edges_of c.args.c) c.args.k c.args.j c.if-a-b-2.true

pub returns-else-a-b-2 : goal.returns-else-a-b-2
returns-else-a-b-2 c = ne_eqb _ _ c.if-a-b-2.false ∙ sym (le-ltb _ _ c.if-a-b.false) ∙ ahead_other (edges_of c.args.c) c.args.k c.args.j c.if-a-b-2.false
