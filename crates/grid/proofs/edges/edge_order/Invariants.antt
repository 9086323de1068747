use Rattle.std.specs.Prelude.{ℕ, ◌<◌, ◌≡◌, false}
use Rattle.grid.specs.Rows.{bad_edge}
use Rattle.grid.proofs.edges.edge_order.Given as goal

abbrev pub invariant-loop-e : goal.invariant-loop-e
invariant-loop-e l = (i : ℕ) → i < l.e → bad_edge l.edges i ≡ false
