use Prim.Native.Nat.{min}
use mathlib.Core.Path.{refl, ap, ◌∙◌}
use native.Mathlib.Omega.{arith}
use Rattle.slots.specs.Limits.{most_count}
use Rattle.cell.proofs.Values.{valued_none, valued_more, valued_all}
use Rattle.cell.proofs.entries.counts_at.Goals as goal

pub loop-k-init : goal.loop-k-init
loop-k-init c = valued_none _ _ refl

pub loop-k-preserved : goal.loop-k-preserved
loop-k-preserved c =
    valued_more _ _ c.loop-k.invariant (omega arith) _
    (c.min.ensures ∙ ap (λ n. min n most_count) c.entry.ensures)

pub returns : goal.returns
returns c = valued_all _ _ c.loop-k.invariant (omega arith)
