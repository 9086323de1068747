use Prim.Native.Nat.{◌-◌, min}
use mathlib.Core.Path.{refl, ap, ◌∙◌}
use native.Mathlib.Omega.{arith}
use Rattle.cell.specs.work.Limits.{start_limit}
use Rattle.cell.specs.work.Route.{limited}
use Rattle.cell.proofs.Values.{valued_none, valued_more, valued_all}
use Rattle.cell.proofs.routes.within.Goals as goal

pub loop-k-init : goal.loop-k-init
loop-k-init c = valued_none _ _ refl

pub loop-k-preserved : goal.loop-k-preserved
loop-k-preserved c =
    valued_more _ _ c.loop-k.invariant (omega arith) _
    (c.min.ensures ∙ ap (λ x. min x (start_limit - 1)) c.start_of.ensures)

pub returns : goal.returns
unfolding limited
returns c = rw (valued_all _ _ c.loop-k.invariant (omega arith)) refl
