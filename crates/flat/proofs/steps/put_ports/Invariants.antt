use Rattle.flat.proofs.Places.{Ported}
use Rattle.flat.proofs.steps.put_ports.Given as goal

abbrev pub invariant-loop-j : goal.invariant-loop-j
invariant-loop-j l = Ported l.sides l.j l.initial.ports l.ports
