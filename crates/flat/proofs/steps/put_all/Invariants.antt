use Prim.Native.Nat.{◌*◌}
use mathlib.Core.Path.{◌≡◌}
use Rattle.counting.specs.Stored.{filled}
use Rattle.grid.specs.Grid.{start}
use Rattle.flat.specs.work.Held.{step_by}
use Rattle.flat.proofs.steps.put_all.Given as goal

abbrev pub invariant-loop-e : goal.invariant-loop-e
invariant-loop-e l = l.next ≡ filled (step_by l.tables) (2 * start l.tables.counts.now l.e) l.initial.next
