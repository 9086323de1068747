use Rattle.grid.proofs.Marks.{Walking, unmarked_cells}
use Rattle.grid.proofs.links.spread.Given as goal

abbrev pub invariant-loop-p : goal.invariant-loop-p
invariant-loop-p l = Walking l.near l.n l.mark l.start l.rank l.initial.marks l.met l.marks l.r l.p

abbrev pub decreases-loop-p : goal.decreases-loop-p
decreases-loop-p l = unmarked_cells l.marks l.mark l.n
