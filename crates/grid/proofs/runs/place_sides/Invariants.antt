use Prim.Native.Nat.{◌-◌}
use Rattle.grid.proofs.Laying.{PlacingSides}
use Rattle.grid.proofs.runs.place_sides.Given as goal

abbrev pub invariant-loop-e : goal.invariant-loop-e
invariant-loop-e g l = PlacingSides l.cells l.edges l.m l.initial.tab l.initial.sides l.e l.tab l.sides

abbrev pub decreases-loop-e : goal.decreases-loop-e
decreases-loop-e g l = l.m - l.e
