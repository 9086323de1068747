use native.Mathlib.Omega.{arith}
use mathlib.Core.Path.{◌∙◌}
use Rattle.grid.proofs.Tellings.{faces_passable, faces_tell, slotted_faces}
use Rattle.grid.proofs.Working.{fresh_again}
use Rattle.grid.proofs.numbering.number_slots.Goals as goal

pub pass-requires : goal.pass-requires
pass-requires g c = let C = c.requires.label_chains in
    let S = slotted_faces c.requires.slotted (c.clear.auto.table ∙ c.number_pairs.auto.keys) c.clear.ensures in
    (omega (arith, c.well_formed), faces_passable S _ _ _ _ _ _ C.by0 C.by1 c.number_pairs.ensures (fresh_again c.requires.fresh.room (c.clear-2.auto.table ∙ c.number_pairs.auto.at) c.clear-2.ensures))

pub returns : goal.returns
returns g c = let C = c.requires.label_chains in
    let S = slotted_faces c.requires.slotted (c.clear.auto.table ∙ c.number_pairs.auto.keys) c.clear.ensures in
    let A = fresh_again c.requires.fresh.room (c.clear-2.auto.table ∙ c.number_pairs.auto.at) c.clear-2.ensures in
    record { told = faces_tell S _ _ _ _ _ _ C.by0 C.by1 c.number_pairs.ensures A _ _ c.pass.ensures; rooms = (omega arith, c.number_pairs.auto.out) }
