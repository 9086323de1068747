use mathlib.Core.Path.{◌∙◌, sym, ap}
use mathlib.Core.Bool.{not}
use borrow.Author.Tests.{eq-eqb}
use Rattle.places.proofs.Fractions.{improper, leading, following}
use Rattle.places.proofs.rows.bad_fraction.Goals as goal

pub returns-then-not-is_proper : goal.returns-then-not-is_proper
returns-then-not-is_proper c = ap not c.if-not-is_proper.true ∙ improper _ _ _ (sym c.is_proper.ensures ∙ c.if-not-is_proper.true)

pub returns-then-index-ne0 : goal.returns-then-index-ne0
returns-then-index-ne0 c = following _ _ _ (sym c.is_proper.ensures ∙ c.if-not-is_proper.false) c.if-index-ne0.true

pub returns-else-index-ne0 : goal.returns-else-index-ne0
returns-else-index-ne0 c = ap not (eq-eqb _ _ c.if-index-ne0.false) ∙ leading _ _ _ (sym c.is_proper.ensures ∙ c.if-not-is_proper.false) c.if-index-ne0.false
