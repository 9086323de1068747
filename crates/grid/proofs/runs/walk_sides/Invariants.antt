use Rattle.grid.proofs.Laying.{WalkingSides}
use Rattle.grid.proofs.runs.walk_sides.Given as goal

abbrev pub invariant-loop-j : goal.invariant-loop-j
invariant-loop-j g l = WalkingSides l.cells l.chain.head l.chain.next l.r l.from l.to l.tab l.initial.sides l.sides l.j

abbrev pub decreases-loop-j : goal.decreases-loop-j
decreases-loop-j g l = l.j
