use borrow.Author.Tests.{eq-eqb, ne_eqb}
use Rattle.cell.specs.Loop.{node_with}
use Rattle.cell.proofs.answers.node_with.Goals as goal

pub returns-then-x-q : goal.returns-then-x-q
unfolding node_with
returns-then-x-q c = simp (eq-eqb _ _ c.if-x-q.true)

pub returns-then-y-q : goal.returns-then-y-q
unfolding node_with
returns-then-y-q c = simp (ne_eqb _ _ c.if-x-q.false, eq-eqb _ _ c.if-y-q.true)

pub returns : goal.returns
unfolding node_with
returns c = simp (ne_eqb _ _ c.if-x-q.false, ne_eqb _ _ c.if-y-q.false)
