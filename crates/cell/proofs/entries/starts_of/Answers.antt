use Prim.Native.Nat.{◌%◌}
use mathlib.Core.Path.{refl, ap, ◌∙◌}
use native.Mathlib.Omega.{arith}
use lib.ListN.{get_or}
use Rattle.cell.specs.claims.Table.{short_limit}
use Rattle.cell.proofs.Values.{valued_none, valued_more, valued_all}
use Rattle.cell.proofs.entries.starts_of.Goals as goal

pub loop-k-init : goal.loop-k-init
loop-k-init c = valued_none _ _ refl

pub loop-k-preserved : goal.loop-k-preserved
loop-k-preserved c =
    valued_more _ _ c.loop-k.invariant (omega arith) _
    (c.start_at.ensures ∙ ap (λ e. get_or c.args.starts.now e 0 % short_limit) c.entry-e.ensures)

pub returns : goal.returns
returns c = valued_all _ _ c.loop-k.invariant (omega arith)
