use borrow.Author.Tests.{eq-eqb, ne_eqb}
use Rattle.grid.specs.Rows.{bad_numbers}
use Rattle.grid.proofs.edges.bad_numbers.Goals as goal

pub returns-then-edges-counts : goal.returns-then-edges-counts
unfolding bad_numbers
returns-then-edges-counts c = rw (ne_eqb _ _ c.if-edges-counts.true)

pub returns-else-edges-counts : goal.returns-else-edges-counts
unfolding bad_numbers
returns-else-edges-counts c = rw (eq-eqb _ _ c.if-edges-counts.false)
