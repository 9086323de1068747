use native.Mathlib.Omega.{arith}
use Rattle.grid.proofs.Tellings.{cells_slotted, faces_told, label-chains, low-chains, node-chains}
use Rattle.grid.proofs.numbering.number_faces.Goals as goal

pub number_slots-requires : goal.number_slots-requires
number_slots-requires g c = let S = cells_slotted c.requires.numerable c.label-many.ensures in
    let e = c.link_all.ensures in
    (omega (arith, c.well_formed), (omega (arith, c.well_formed), (S, (label-chains S c.requires.chain_tables e.first e.second e.third, c.requires.fresh))))

pub returns : goal.returns
returns g c = let L = c.label-many.ensures in
    let S = cells_slotted c.requires.numerable L in
    let e = c.link_all.ensures in
    let C = label-chains S c.requires.chain_tables e.first e.second e.third in
    record { comparable = record { few = c.requires.numerable.few; told = faces_told _ _ _ _ _ _ L c.number_slots.ensures.told; at_room = omega (arith, c.requires.fresh.room, c.number_slots.ensures.rooms.0); same_room = omega (arith, c.requires.numerable.same_new.room, c.number_slots.ensures.rooms.1) }; node_chains = node-chains c.requires.numerable L C; low_chains = low-chains c.requires.numerable L C }
