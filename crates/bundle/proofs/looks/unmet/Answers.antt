use mathlib.Core.Path.{refl}
use native.Mathlib.Omega.{arith}
use Rattle.std.proofs.Common.{below_more}
use Rattle.counting.proofs.Search.{found_hit, found_end}
use Rattle.bundle.specs.work.Looked.{top_unmet}
use Rattle.bundle.proofs.looks.unmet.Goals as goal

pub returns-then-not-met-tops : goal.returns-then-not-met-tops
unfolding top_unmet
returns-then-not-met-tops c = found_hit _ _ _ c.loop-j-test.true (rw c.if-not-met-tops.true refl) c.loop-j.invariant

pub loop-j-preserved : goal.loop-j-preserved
unfolding top_unmet
loop-j-preserved c = below_more _ _ c.loop-j.invariant (rw c.if-not-met-tops.false refl)

pub returns : goal.returns
returns c = found_end _ _ (λ i h. c.loop-j.invariant i (omega arith))
