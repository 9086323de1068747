use mathlib.Core.Path.{refl}
use Rattle.grid.proofs.Laying.{turn_lays}
use Rattle.grid.proofs.runs.turn_sides.Goals as goal

pub returns : goal.returns
returns g c = turn_lays c.requires _ refl c.walk_sides.ensures c.walk_sides-2.ensures c.walk_sides-3.ensures
