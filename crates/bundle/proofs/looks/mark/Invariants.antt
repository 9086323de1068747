use Rattle.bundle.specs.Bundle.{edge_section}
use Rattle.bundle.proofs.Runs.{Walked}
use Rattle.bundle.proofs.Looked.{Marking}
use Rattle.bundle.proofs.looks.mark.Given as goal

abbrev pub invariant-loop : goal.invariant-loop
invariant-loop l = let b = l.forest.keys.now in
    let n = l.forest.count in Walked b.of.bytes.now b.of.from edge_section l.at l.counter × Marking b.of.bytes.now b.first n l.initial.met l.met l.counter
