use Rattle.std.specs.Prelude.{ℕ, ◌<◌, ◌≡◌, false}
use Rattle.grid.specs.Rows.{bad_cell}
use Rattle.grid.proofs.cells.row_3.Given as goal

abbrev pub invariant-loop-c : goal.invariant-loop-c
invariant-loop-c l = (i : ℕ) → i < l.c → bad_cell l.cells i ≡ false
