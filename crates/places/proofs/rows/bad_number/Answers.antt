use mathlib.Core.Path.{◌∙◌, ap}
use mathlib.Core.Bool.{not}
use borrow.Author.Tests.{ne_eqb}
use Rattle.places.proofs.Marks.{number_marked, number_free}
use Rattle.places.proofs.rows.bad_number.Goals as goal

pub returns-then-used-i-eq1 : goal.returns-then-used-i-eq1
returns-then-used-i-eq1 c = let a = c.args in ap not c.is_within.ensures ∙ number_marked a.used.now a.nodes.now a.i c.if-used-i-eq1.true

pub returns-else-used-i-eq1 : goal.returns-else-used-i-eq1
returns-else-used-i-eq1 c = let a = c.args in ne_eqb _ _ c.if-used-i-eq1.false ∙ number_free a.used.now a.nodes.now a.i c.if-used-i-eq1.false
