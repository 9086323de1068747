use Rattle.direct.specs.work.Loops.{threes_in}
use Rattle.direct.proofs.Putting.{Under}
use Rattle.direct.proofs.level.LevelCell.put_threes.Given as goal

abbrev pub invariant-loop-i : goal.invariant-loop-i
invariant-loop-i l = Under (threes_in l.self.cell l.loops) l.initial.area l.at l.i l.area l.j
