use Rattle.cell.specs.Of.{edges_of}
use Rattle.cell.proofs.Route.{SumBefore}
use Rattle.direct.proofs.level.LevelCell.laid_before.Given as goal

abbrev pub invariant-loop-j : goal.invariant-loop-j
invariant-loop-j l = SumBefore (edges_of l.self.cell) l.k l.j l.n
