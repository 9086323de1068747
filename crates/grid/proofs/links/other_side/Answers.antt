use native.Mathlib.Omega.{arith}
use Rattle.slots.proofs.Slots.{third_of}
use Rattle.grid.proofs.Marks.{other_fits, other_high, other_low}
use Rattle.grid.proofs.links.other_side.Goals as goal

pub returns-then-k-lt3 : goal.returns-then-k-lt3
returns-then-k-lt3 c = let p = c.requires in
    let a = c.args in
    record { value = other_low a.k a.s (omega arith); upper_bound = rw (other_low a.k a.s (omega arith)) (third_of _ _ p.edge_lt p.slot_lt p.holds).lt }

pub overflow_sub-result-else-k-lt3-2 : goal.overflow_sub-result-else-k-lt3-2
overflow_sub-result-else-k-lt3-2 c = let p = c.requires in omega (arith, other_fits _ _ p.edge_lt p.slot_lt p.holds)

pub returns-else-k-lt3 : goal.returns-else-k-lt3
returns-else-k-lt3 c = let p = c.requires in
    let a = c.args in
    record { value = other_high a.k a.s (omega arith) p.edge_lt; upper_bound = rw (other_high a.k a.s (omega arith) p.edge_lt) (third_of _ _ p.edge_lt p.slot_lt p.holds).lt }
