use Rattle.std.specs.Prelude.{ℕ, ◌<◌, ◌≡◌, false}
use mathlib.Core.Path.{◌≡◌}
use lib.ListN.{length}
use Rattle.grid.proofs.Meets.{Meets}
use Rattle.grid.specs.work.Work.{Mates, third_at}
use Rattle.grid.specs.work.Walks.{entry}
use Rattle.grid.proofs.cells.pair.Given as goal

abbrev pub invariant-loop-j : goal.invariant-loop-j
invariant-loop-j l = ((i : ℕ) → i < l.j → third_at l.keys i ≡ false) × (length l.near ≡ length l.initial.near) × Mates l.keys l.j l.near × Meets (entry l.keys) (length l.initial.seen) l.seen l.j
