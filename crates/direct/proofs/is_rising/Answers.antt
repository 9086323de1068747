use Rattle.direct.proofs.Families.{all_up, one_down, up_more}
use native.Mathlib.Omega.{arith}
use Rattle.direct.proofs.is_rising.Goals as goal

pub loop-k-init : goal.loop-k-init
loop-k-init c = λ i h. absurd (omega arith)

pub returns-then-starts-k : goal.returns-then-starts-k
returns-then-starts-k c = one_down c.args.starts c.loop-k.k (omega arith) c.if-starts-k.true

pub loop-k-preserved : goal.loop-k-preserved
loop-k-preserved c = up_more c.args.starts c.loop-k.k c.loop-k.invariant (omega (arith, c.if-starts-k.false))

pub returns : goal.returns
returns c = all_up c.args.starts c.loop-k.k (omega arith) c.loop-k.invariant
