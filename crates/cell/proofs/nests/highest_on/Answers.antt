use Prim.Native.Nat.{max}
use mathlib.Core.Path.{ap, ap₂, ◌∙◌}
use native.Mathlib.Omega.{arith}
use lib.Dec.{eqb}
use Rattle.counting.specs.Pick.{pick}
use Rattle.cell.specs.claims.Nests.{greatest_of}
use Rattle.cell.specs.work.Centres.{highest_on}
use Rattle.cell.proofs.Nesting.{greatest_none, greatest_more, risen_few}
use Rattle.cell.proofs.nests.highest_on.Goals as goal

pub loop-k-init : goal.loop-k-init
loop-k-init c = (greatest_none _, omega arith)

pub loop-k-preserved : goal.loop-k-preserved
loop-k-preserved c = let L = c.loop-k in (
  greatest_more _ L.k L.invariant.0 (c.risen-most.ensures ∙ ap₂ (λ d g. max L.most (pick (eqb d c.args.e) g 0)) c.edge_at.ensures c.point_at.ensures.0),
  risen_few c.edge_at.result c.args.e L.invariant.1 c.point_at.ensures.1 c.risen-most.ensures,
)

pub returns : goal.returns
unfolding highest_on
returns c = (c.loop-k.invariant.0 ∙ ap (greatest_of _) (omega arith), c.loop-k.invariant.1)
