use Prim.Native.Nat.{◌*◌}
use Rattle.counting.specs.Lists.{over}
use Rattle.counting.specs.work.Stored.{Stored}
use Rattle.place.specs.Place.{coordinates}
use Rattle.cell.proofs.Going.{Going}
use Rattle.cell.proofs.Fans.{middle_of}
use Rattle.cell.proofs.part_middles.write_each.Given as goal

abbrev pub invariant-loop-p : goal.invariant-loop-p
invariant-loop-p l = Going l.c l.n l.routes l.initial.marks l.initial.halves l.initial.points l.marks l.halves l.points l.p × Stored l.initial.area (coordinates * l.at) (over (middle_of l.nodes l.c l.initial.area) l.p 0) l.area (coordinates * l.i)
