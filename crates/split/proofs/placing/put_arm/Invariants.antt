use Prim.Native.Nat.{◌+◌, ◌*◌}
use Rattle.counting.specs.Lists.{values}
use Rattle.counting.specs.work.Stored.{Stored}
use Rattle.place.specs.Place.{part_of, between, coordinates, all_numbers}
use Rattle.split.proofs.placing.put_arm.Given as goal

abbrev pub invariant-loop-h : goal.invariant-loop-h
invariant-loop-h l = Stored l.initial.area (coordinates * l.i) (all_numbers (values (λ h. between l.a l.v (part_of h l.n)) l.h)) l.area (coordinates * (l.i + l.h))
