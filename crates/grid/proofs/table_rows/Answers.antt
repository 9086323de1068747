use native.Mathlib.Omega.{arith}
use Rattle.grid.proofs.Meets.{rising_numerable}
use Rattle.grid.proofs.Working.{chains_new, fresh_less}
use Rattle.grid.proofs.table_rows.Goals as goal

pub number_faces-many-requires : goal.number_faces-many-requires
number_faces-many-requires g c = let p = c.requires in
    let s = p.sized in
    let N = c.new-by_node.ensures in
    let S = c.new-by_slot.ensures in
    let numerable = rising_numerable p.numbering.ordered (fresh_less (omega arith) S.labels) N.ranks (fresh_less (omega arith) S.faces) (fresh_less (omega arith) S.same) in
    (omega arith, (omega arith, (numerable, (chains_new _ _ _ s p.cells_bound N.first N.second N.third, fresh_less (omega arith) S.at))))
