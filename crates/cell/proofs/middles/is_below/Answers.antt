use native.Mathlib.Omega.{arith}
use native.Mathlib.Decide.{dec_lt}
use mathlib.Core.Logic.{inl, inr}
use Rattle.cell.proofs.Fans.{highest_none, highest_more, highest_all}
use Rattle.cell.proofs.middles.is_below.Goals as goal

pub loop-e-init : goal.loop-e-init
loop-e-init c = highest_none _

pub loop-e-preserved : goal.loop-e-preserved
loop-e-preserved c = let H = c.loop-e.invariant in
    let e = c.end_of.ensures in
    let m = c.max-last.ensures in
    elim (dec_lt c.loop-e.last c.end_of.result) [
      | yes h ↦ highest_more H (omega arith) (omega (arith, m)) (omega (arith, e, m)) (inr (omega (arith, e, m)))
      | no h ↦ highest_more H (omega arith) (omega (arith, m)) (omega (arith, e, m)) (inl (omega (arith, m)))
    ]

pub returns : goal.returns
returns c = highest_all c.loop-e.invariant (omega arith) _
