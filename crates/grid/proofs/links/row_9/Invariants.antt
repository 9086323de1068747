use Rattle.std.specs.Prelude.{ℕ, ◌<◌, ◌≡◌, false}
use mathlib.Core.Path.{◌≡◌}
use lib.ListN.{length}
use Rattle.grid.specs.work.Lent.{rebuilt}
use Rattle.grid.specs.Rows.{split}
use Rattle.grid.proofs.Ring.{Under}
use Rattle.grid.proofs.links.row_9.Given as goal

abbrev pub invariant-loop-e : goal.invariant-loop-e
invariant-loop-e l = ((i : ℕ) → i < l.e → split (rebuilt l.grid) i ≡ false) × (length l.marks ≡ length l.initial.marks) × Under l.marks l.e
