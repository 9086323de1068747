use mathlib.Core.Path.{◌∙◌, sym}
use native.Mathlib.Omega.{arith}
use Rattle.counting.proofs.Search.{found_end, found_hit}
use Rattle.grid.proofs.edges.edge_order.Goals as goal

pub returns-then-bad_edge : goal.returns-then-bad_edge
returns-then-bad_edge c = found_hit _ _ _ (omega arith) (sym c.bad_edge.ensures ∙ c.if-bad_edge.true) c.loop-e.invariant

pub returns : goal.returns
returns c = found_end _ _ (λ i h. c.loop-e.invariant i (omega arith))
