use Prim.Native.Nat.{◌+◌, ◌*◌}
use mathlib.Core.Path.{◌≡◌}
use lib.Seq.{sets}
use Rattle.counting.specs.Lists.{values}
use Rattle.grid.specs.Grid.{start}
use Rattle.flat.specs.work.Held.{step_by}
use Rattle.flat.proofs.steps.put_edge.Given as goal

abbrev pub invariant-loop-t : goal.invariant-loop-t
invariant-loop-t l = l.next ≡ sets l.initial.next (2 * start l.tables.counts.now l.e) (values (λ i. step_by l.tables (2 * start l.tables.counts.now l.e + i)) (2 * l.t))
