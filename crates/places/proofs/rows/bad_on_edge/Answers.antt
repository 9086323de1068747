use Rattle.std.proofs.Common.{below_more}
use mathlib.Core.Path.{◌∙◌, sym}
use native.Mathlib.Nat.{not-suc-le-zero}
use native.Mathlib.Omega.{arith}
use Rattle.counting.proofs.Search.{found_hit, found_end}
use Rattle.places.proofs.rows.bad_on_edge.Goals as goal

pub loop-i-init : goal.loop-i-init
loop-i-init c = λ k h. absurd (not-suc-le-zero h)

pub returns-then-bad_fraction : goal.returns-then-bad_fraction
returns-then-bad_fraction c = found_hit _ _ _ (omega arith) (sym c.bad_fraction.ensures ∙ c.if-bad_fraction.true) c.loop-i.invariant

pub loop-i-preserved : goal.loop-i-preserved
loop-i-preserved c = below_more _ _ c.loop-i.invariant (sym c.bad_fraction.ensures ∙ c.if-bad_fraction.false)

pub returns : goal.returns
returns c = found_end _ _ (λ k h. c.loop-i.invariant k (omega arith))
