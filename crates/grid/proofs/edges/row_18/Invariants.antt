use Rattle.std.specs.Prelude.{ℕ, ◌<◌, ◌≡◌, false}
use Rattle.grid.specs.Rows.{bad_count}
use Rattle.grid.proofs.edges.row_18.Given as goal

abbrev pub invariant-loop-e : goal.invariant-loop-e
invariant-loop-e l = (i : ℕ) → i < l.e → bad_count l.counts i ≡ false
