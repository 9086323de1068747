use Rattle.std.specs.Prelude.{ℕ, ◌<◌, ◌≡◌, false}
use Rattle.grid.specs.Rows.{repeats}
use Rattle.grid.proofs.cells.row_4.Given as goal

abbrev pub invariant-loop-c : goal.invariant-loop-c
invariant-loop-c l = (i : ℕ) → i < l.c → repeats l.cells i ≡ false
