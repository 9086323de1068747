use mathlib.Core.Path.{sym, ◌∙◌}
use Rattle.cell.specs.Cell.{ahead}
use Rattle.cell.specs.Of.{edges_of}
use Rattle.direct.proofs.Laying.{two_first, two_second}
use Rattle.direct.proofs.laid.passes.Goals as goal

pub returns-then-is_before : goal.returns-then-is_before
returns-then-is_before c = c.if-is_before.true ∙ two_first (ahead (edges_of c.args.c)) _ _ _ (sym c.is_before.ensures ∙ c.if-is_before.true)

pub returns-else-is_before : goal.returns-else-is_before
returns-else-is_before c = c.is_before-else-is_before.ensures ∙ two_second (ahead (edges_of c.args.c)) _ _ _ (sym c.is_before.ensures ∙ c.if-is_before.false)
