use mathlib.Core.Logic.{inl, inr}
use native.Mathlib.Omega.{arith}
use Rattle.direct.proofs.Laying.{other_more, edge_found, edge_last}
use Rattle.direct.proofs.level.LevelCell.edge_at.Goals as goal
use Rattle.direct.proofs.level.LevelCell.edge_at.Goals.{else-self-k-ne0-via-then-self-k-ne0+else-firsts-k, else-self-k-ne0-via-else-self-k-ne0}

pub loop-k-init : goal.loop-k-init
loop-k-init c = λ j h. absurd (omega arith)

pub returns-then-firsts-k : goal.returns-then-firsts-k
returns-then-firsts-k c = edge_found c.args.firsts c.args.self.now.listed c.requires.0 c.requires.1 _ (omega arith) c.if-self-k-ne0.true c.if-firsts-k.true

pub loop-k-preserved : goal.loop-k-preserved
loop-k-preserved c =
    other_more c.args.self.now.six c.args.firsts _ _ c.loop-k.invariant
    (elim c.else-self-k-ne0.branch [ else-self-k-ne0-via-then-self-k-ne0+else-firsts-k w ↦ inr (λ e. w.if-firsts-k.false e) | else-self-k-ne0-via-else-self-k-ne0 w ↦ inl w.if-self-k-ne0.false ])

pub returns : goal.returns
returns c = edge_last c.args.firsts c.args.self.now.listed c.requires.0 c.requires.1 5 (omega arith) (omega arith) (λ j h. c.loop-k.invariant j (omega arith))
