use Prim.Native.Nat.{◌≤◌}
use lib.ListN.{length}
use Rattle.counting.specs.Lists.{over}
use Rattle.counting.specs.work.Stored.{Stored}
use Rattle.bundle.specs.Written.{edge_bytes}
use Rattle.bundle.proofs.writer.put_edges.Given as goal

abbrev pub invariant-loop-k : goal.invariant-loop-k
invariant-loop-k l = (l.k ≤ length l.counts) × Stored l.initial.area l.from (over (edge_bytes l.ends l.counts) l.k 0) l.area l.at
