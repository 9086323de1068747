use Rattle.std.specs.Prelude.{ℕ, ◌<◌, ◌≡◌, false}
use lib.ListN.{length}
use Rattle.grid.proofs.Meets.{Meets}
use Rattle.grid.specs.Rows.{repeats}
use Rattle.grid.specs.work.Walks.{cell_number}
use Rattle.grid.proofs.cells.first_same.Given as goal

abbrev pub invariant-loop-c : goal.invariant-loop-c
invariant-loop-c l = ((i : ℕ) → i < l.c → repeats l.cells i ≡ false) × Meets (cell_number l.same) (length l.initial.seen) l.seen l.c
