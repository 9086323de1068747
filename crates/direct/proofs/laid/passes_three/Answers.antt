use mathlib.Core.Path.{sym, ◌∙◌}
use Rattle.cell.specs.Cell.{ahead}
use Rattle.cell.specs.Of.{edges_of}
use Rattle.direct.proofs.Laying.{three_first, three_rest}
use Rattle.direct.proofs.laid.passes_three.Goals as goal

pub returns-then-is_before : goal.returns-then-is_before
returns-then-is_before c = c.if-is_before.true ∙ three_first (ahead (edges_of c.args.c)) _ _ _ _ (sym c.is_before.ensures ∙ c.if-is_before.true)

pub returns-else-is_before : goal.returns-else-is_before
returns-else-is_before c = c.passes.ensures ∙ three_rest (ahead (edges_of c.args.c)) _ _ _ _ (sym c.is_before.ensures ∙ c.if-is_before.false)
