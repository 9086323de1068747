use mathlib.Core.Path.{refl}
use native.Mathlib.Omega.{arith}
use Rattle.cell.proofs.Values.{valued_none, valued_more, valued_all}
use Rattle.cell.proofs.entries.four_of.Goals as goal

pub loop-i-init : goal.loop-i-init
loop-i-init c = valued_none _ _ refl

pub loop-i-preserved : goal.loop-i-preserved
loop-i-preserved c = valued_more _ _ c.loop-i.invariant (omega arith) _ c.entry.ensures

pub returns : goal.returns
returns c = valued_all _ _ c.loop-i.invariant (omega arith)
