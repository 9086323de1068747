use mathlib.Core.Path.{sym, ◌∙◌}
use Rattle.cell.proofs.Fans.{below_placeable, placeable_is}
use Rattle.cell.proofs.middles.is_placeable.Goals as goal

pub returns-then-is_below : goal.returns-then-is_below
returns-then-is_below c = let A = c.args in c.if-is_below.true ∙ sym (below_placeable A.c A.at (sym c.is_below.ensures ∙ c.if-is_below.true))

pub returns-else-is_below : goal.returns-else-is_below
returns-else-is_below c = let A = c.args in c.is_some.ensures ∙ placeable_is A.c A.at c.nest_in.result c.nest_in.ensures (sym c.is_below.ensures ∙ c.if-is_below.false)
