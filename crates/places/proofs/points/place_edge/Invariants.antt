use Prim.Native.Nat.{◌+◌, ◌*◌}
use Rattle.counting.specs.work.Stored.{Stored}
use Rattle.place.specs.Place.{coordinates, all_numbers}
use Rattle.places.specs.work.Work.{on_edge}
use Rattle.places.proofs.points.place_edge.Given as goal

abbrev pub invariant-loop-i : goal.invariant-loop-i
invariant-loop-i l = Stored l.initial.area (coordinates * l.g) (all_numbers (on_edge l.u l.v l.fractions l.i l.g)) l.area (coordinates * (l.g + l.i))
