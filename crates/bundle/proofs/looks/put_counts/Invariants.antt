use mathlib.Core.Path.{◌≡◌}
use Prim.Native.Nat.{◌+◌}
use Rattle.counting.specs.Stored.{filled}
use Rattle.bundle.specs.Bundle.{edge_section, count_after}
use Rattle.bundle.proofs.Runs.{Walked}
use Rattle.bundle.proofs.looks.put_counts.Given as goal

abbrev pub invariant-loop-k : goal.invariant-loop-k
invariant-loop-k l = let b = l.forest.keys.now in let n = l.forest.count in
    Walked b.of.bytes.now b.of.from edge_section l.at l.k × (l.counts ≡ filled (count_after b.of.bytes.now (b.first + n)) l.k l.initial.counts)
