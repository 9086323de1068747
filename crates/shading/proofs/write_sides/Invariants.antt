use Rattle.shading.proofs.Bytes.{Writing}
use Rattle.shading.proofs.write_sides.Given as goal

abbrev pub invariant-loop-x : goal.invariant-loop-x
invariant-loop-x l = Writing l.links l.initial.area l.x l.area
