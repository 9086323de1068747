use Prim.Native.Nat.{◌*◌}
use Rattle.counting.specs.Lists.{over}
use Rattle.counting.specs.work.Stored.{Stored}
use Rattle.bundle.specs.Bundle.{edge_ends, edge_section}
use Rattle.bundle.proofs.Runs.{Walked}
use Rattle.bundle.proofs.Fills.{ends_by, count_by}
use Rattle.bundle.proofs.reader.fill_edges.Given as goal

abbrev pub invariant-loop-k : goal.invariant-loop-k
invariant-loop-k l = Walked l.bytes l.from edge_section l.at l.k × Stored l.initial.ends 0 (over (ends_by l.bytes l.from) l.k 0) l.ends (edge_ends * l.k) × Stored l.initial.counts 0 (over (count_by l.bytes l.from) l.k 0) l.counts l.k
