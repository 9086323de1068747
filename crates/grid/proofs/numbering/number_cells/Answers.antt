use native.Mathlib.Omega.{arith}
use Rattle.grid.proofs.Tellings.{cells_passable, cells_tell}
use Rattle.grid.proofs.numbering.number_cells.Goals as goal

pub pass-requires : goal.pass-requires
pass-requires g c = (omega (arith, c.well_formed), cells_passable c.requires.low_chains c.requires.comparable c.clear-2.auto.table c.clear-2.ensures c.clear.auto.table c.clear.ensures)

pub returns : goal.returns
returns g c = cells_tell c.requires.low_chains c.requires.comparable c.clear-2.auto.table c.clear-2.ensures c.clear.auto.table c.clear.ensures _ _ c.pass.ensures
