use mathlib.Core.Path.{◌≡◌}
use Rattle.counting.specs.Stored.{filled}
use Rattle.layers.specs.work.Work.{side_from}
use Rattle.layers.proofs.tables.write_sides.Given as goal

abbrev pub invariant-loop-j : goal.invariant-loop-j
invariant-loop-j l = l.own ≡ filled (side_from l.sides l.from) l.j l.initial.own
