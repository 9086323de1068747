use Prim.Native.Nat.{◌*◌}
use Rattle.counting.specs.Lists.{over}
use Rattle.counting.specs.work.Stored.{Stored}
use Rattle.bundle.specs.Record.{cell_kind}
use Rattle.bundle.specs.Bundle.{cell_nodes}
use Rattle.bundle.proofs.Runs.{Walked}
use Rattle.bundle.proofs.Fills.{nodes_by}
use Rattle.bundle.proofs.reader.fill_cells.Given as goal

abbrev pub invariant-loop-k : goal.invariant-loop-k
invariant-loop-k l = Walked l.bytes 0 cell_kind l.at l.k × Stored l.initial.nodes 0 (over (nodes_by l.bytes 0) l.k 0) l.nodes (cell_nodes * l.k)
