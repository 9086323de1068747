use mathlib.Core.Path.{refl}
use native.Mathlib.Omega.{arith}
use Rattle.flat.proofs.Places.{ported_first, ported_none, ported_second, ported_table}
use Rattle.flat.proofs.steps.put_ports.Goals as goal

pub loop-j-init : goal.loop-j-init
loop-j-init c = ported_none _ _ c.requires.blank

pub loop-j-preserved-then-ports-i-eq0 : goal.loop-j-preserved-then-ports-i-eq0
loop-j-preserved-then-ports-i-eq0 c = let c-loop = c.loop-j in
    let c-pre = c.requires in
    ported_first c-loop.invariant _ refl (c-pre.within c-loop.j (omega arith)) c.if-ports-i-eq0.true

pub loop-j-preserved : goal.loop-j-preserved
loop-j-preserved c = let c-loop = c.loop-j in
    let c-pre = c.requires in
    ported_second c-loop.invariant _ refl (c-pre.within c-loop.j (omega arith)) c.if-ports-i-eq0.false

pub returns : goal.returns
returns c = ported_table c.loop-j.invariant (omega arith)
