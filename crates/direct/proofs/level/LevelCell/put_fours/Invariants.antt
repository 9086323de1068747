use Rattle.direct.specs.work.Loops.{fours_in}
use Rattle.direct.proofs.Putting.{Under}
use Rattle.direct.proofs.level.LevelCell.put_fours.Given as goal

abbrev pub invariant-loop-i : goal.invariant-loop-i
invariant-loop-i l = Under (fours_in l.self.cell l.loops) l.initial.area l.at l.i l.area l.j
