use Prim.Native.Nat.{◌*◌}
use mathlib.Core.Path.{◌≡◌}
use Rattle.counting.specs.Lists.{values}
use Rattle.counting.specs.work.Stored.{Stored}
use Rattle.place.specs.Place.{coordinates, all_numbers}
use Rattle.grid.specs.Grid.{start}
use Rattle.places.specs.Points.{crossing_place}
use Rattle.places.proofs.points.place_crossings.Given as goal

abbrev pub invariant-loop-e : goal.invariant-loop-e
invariant-loop-e l = (l.g ≡ start l.counts l.e) × Stored l.initial.area 0 (all_numbers (values (crossing_place l.edges l.counts l.nodes l.fractions) l.g)) l.area (coordinates * l.g)
