use Rattle.cell.specs.Of.{edges_of}
use Rattle.cell.proofs.Route.{Sum}
use Rattle.cell.proofs.routes.crossings_of.Given as goal

abbrev pub invariant-loop-k : goal.invariant-loop-k
invariant-loop-k l = Sum (edges_of l.c) l.k l.n
