use native.Mathlib.Omega.{arith}
use Rattle.direct.proofs.Laying.{near_more, false_true}
use Rattle.direct.proofs.laid.is_near.Goals as goal

pub loop-k-init : goal.loop-k-init
loop-k-init c = λ i h. absurd (omega arith)

pub returns-then-c-k-ge-START_LIMIT : goal.returns-then-c-k-ge-START_LIMIT
returns-then-c-k-ge-START_LIMIT c e = absurd (false_true e)

pub loop-k-preserved : goal.loop-k-preserved
loop-k-preserved c = near_more c.args.c c.loop-k.k c.loop-k.invariant (omega (arith, c.if-c-k-ge-START_LIMIT.false))

pub returns : goal.returns
returns c = λ _ e l. c.loop-k.invariant e (omega arith)
