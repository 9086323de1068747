use Prim.Native.Nat.{◌/◌, ◌≤◌}
use lib.ListN.{length}
use Rattle.counting.specs.Lists.{over}
use Rattle.counting.specs.work.Stored.{Stored}
use Rattle.bundle.specs.Bundle.{cell_nodes}
use Rattle.bundle.specs.Written.{cell_bytes}
use Rattle.bundle.proofs.writer.put_cells.Given as goal

abbrev pub invariant-loop-k : goal.invariant-loop-k
invariant-loop-k l = (l.k ≤ length l.nodes / cell_nodes) × Stored l.initial.area 0 (over (cell_bytes l.nodes) l.k 0) l.area l.at
