use borrow.Author.Tests.{ne_eqb}
use Rattle.cell.proofs.Nesting.{above_same, above_not}
use Rattle.cell.proofs.nests.is_above.Goals as goal

pub returns-then-y-z : goal.returns-then-y-z
returns-then-y-z c = above_same _ _ _ c.if-y-z.true

pub returns-else-y-z : goal.returns-else-y-z
returns-else-y-z c = rw (ne_eqb _ _ c.if-y-z.false) (above_not _ _ _ c.if-y-z.false)
