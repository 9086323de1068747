use Rattle.cell.proofs.Fans.{Highest}
use Rattle.cell.proofs.middles.is_below.Given as goal

abbrev pub invariant-loop-e : goal.invariant-loop-e
invariant-loop-e l = Highest l.c l.e l.last
