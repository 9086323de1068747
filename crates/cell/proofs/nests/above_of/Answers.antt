use native.Mathlib.Omega.{arith}
use mathlib.Core.Path.{sym, ◌∙◌}
use Rattle.cell.proofs.Nesting.{above_first, above_second, above_third, above_none}
use Rattle.cell.proofs.nests.above_of.Goals as goal

pub returns-then-is_above : goal.returns-then-is_above
returns-then-is_above c = (above_first _ _ _ (sym c.is_above.ensures ∙ c.if-is_above.true), omega arith)

pub returns-then-is_above-2 : goal.returns-then-is_above-2
returns-then-is_above-2 c = (above_second _ _ _ (sym c.is_above.ensures ∙ c.if-is_above.false) (sym c.is_above-2.ensures ∙ c.if-is_above-2.true), omega arith)

pub returns-then-is_above-3 : goal.returns-then-is_above-3
returns-then-is_above-3 c = (above_third _ _ _ (sym c.is_above.ensures ∙ c.if-is_above.false) (sym c.is_above-2.ensures ∙ c.if-is_above-2.false) (sym c.is_above-3.ensures ∙ c.if-is_above-3.true), omega arith)

pub returns : goal.returns
returns c = sym (above_none _ _ _ (sym c.is_above.ensures ∙ c.if-is_above.false) (sym c.is_above-2.ensures ∙ c.if-is_above-2.false) (sym c.is_above-3.ensures ∙ c.if-is_above-3.false))
