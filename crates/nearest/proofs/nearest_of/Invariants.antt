use Rattle.std.proofs.Common.{◌≤◌, ◌+◌, ◌-◌, ◌/◌, length}
use Rattle.nearest.specs.Distance.{distance_of, point_count}
use Rattle.nearest.proofs.Least.{LeastSoFar}
use Rattle.nearest.proofs.nearest_of.Given as goal

abbrev pub invariant-loop-k : goal.invariant-loop-k
invariant-loop-k l = record { reached : LeastSoFar (distance_of l.points l.query) (l.best + 1) l.best l.least; inside : l.best ≤ point_count l.points - 1 }

abbrev pub decreases-loop-k : goal.decreases-loop-k
decreases-loop-k l = point_count l.points - l.best
