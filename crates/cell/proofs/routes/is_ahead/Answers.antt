use mathlib.Core.Path.{sym, ◌∙◌}
use Rattle.cell.proofs.Route.{ahead_same, ahead_other}
use Rattle.cell.specs.Of.{edges_of}
use Rattle.cell.proofs.routes.is_ahead.Goals as goal

pub returns-then-a-b : goal.returns-then-a-b
returns-then-a-b c = ahead_same (edges_of c.args.c) _ _ (sym c.start_of-a.ensures ∙ c.if-a-b.true ∙ c.start_of-b.ensures)

pub returns-else-a-b : goal.returns-else-a-b
returns-else-a-b c = rw (c.start_of-a.ensures, c.start_of-b.ensures) (ahead_other (edges_of c.args.c) _ _ (rw (c.start_of-a.ensures, c.start_of-b.ensures) at c.if-a-b.false))
