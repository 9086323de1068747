use borrow.Author.Tests.{eq-eqb, ne_eqb}
use Rattle.split.specs.work.Working.{label_by}
use Rattle.split.proofs.numbers.label_of.Goals as goal

pub returns-then-r-d1 : goal.returns-then-r-d1
unfolding label_by
returns-then-r-d1 c = simp (eq-eqb _ _ c.if-r-d1.true)

pub returns-then-r-d2 : goal.returns-then-r-d2
unfolding label_by
returns-then-r-d2 c = simp (ne_eqb _ _ c.if-r-d1.false, eq-eqb _ _ c.if-r-d2.true)

pub returns-else-r-d2 : goal.returns-else-r-d2
unfolding label_by
returns-else-r-d2 c = simp (ne_eqb _ _ c.if-r-d1.false, ne_eqb _ _ c.if-r-d2.false)
