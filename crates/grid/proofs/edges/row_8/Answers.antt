use native.Mathlib.Omega.{arith}
use Rattle.grid.proofs.Sides.{row_8_hit, row_8_last, row_8_none}
use Rattle.grid.proofs.edges.row_8.Goals as goal

pub returns-then-top-e-eq0-clause-value : goal.returns-then-top-e-eq0-clause-value
returns-then-top-e-eq0-clause-value c = row_8_hit c.requires c.min-m.result c.min-m.ensures _ (omega arith) c.if-top-e-eq0.true c.loop-e.invariant

pub returns-then-m-n-clause-value : goal.returns-then-m-n-clause-value
returns-then-m-n-clause-value c = row_8_last c.requires c.min-m.result c.min-m.ensures (λ i h. c.loop-e.invariant i (omega arith)) c.if-m-n.true

pub returns-else-m-n-clause-value : goal.returns-else-m-n-clause-value
returns-else-m-n-clause-value c = row_8_none c.requires c.min-m.result c.min-m.ensures (λ i h. c.loop-e.invariant i (omega arith)) c.if-m-n.false
