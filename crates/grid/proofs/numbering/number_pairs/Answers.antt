use native.Mathlib.Omega.{arith}
use Rattle.counting.proofs.Tables.{filled_table}
use Rattle.grid.proofs.Tellings.{pairs_passable, pairs_told}
use Rattle.grid.proofs.numbering.number_pairs.Goals as goal

pub pass-requires : goal.pass-requires
pass-requires g c = (omega (arith, c.well_formed), pairs_passable c.requires _ (filled_table _ _ _ _ c.thirds.ensures c.requires.keys_room))

pub returns : goal.returns
returns g c = pairs_told c.requires _ _ _ (filled_table _ _ _ _ c.thirds.ensures c.requires.keys_room) c.pass.ensures
