use native.Mathlib.Omega.{arith}
use Rattle.direct.proofs.Laying.{positions, at_ends, own_edge, low_room, middle_room, high_room, on_stored}
use Rattle.direct.proofs.LevelCells.{laid_of}
use Rattle.direct.proofs.level.LevelCell.put_edge.Goals as goal

pub overflow_sub-d-3 : goal.overflow_sub-d-3
overflow_sub-d-3 c = omega (arith, (positions c.requires.k_lt c.low_end-a.ensures.0 c.high_end-b.ensures.0 c.third_of-c.ensures).0)

pub invariant_of-low : goal.invariant_of-low
invariant_of-low c = record { all = at_ends (laid_of c.args.self.now c.requires.plain) c.requires.k_lt (positions c.requires.k_lt c.low_end-a.ensures.0 c.high_end-b.ensures.0 c.third_of-c.ensures).1 }

pub put_ring-i-requires : goal.put_ring-i-requires
put_ring-i-requires c = let P = c.requires in
    let R = laid_of c.args.self.now P.plain in
    let Q = (positions P.k_lt c.low_end-a.ensures.0 c.high_end-b.ensures.0 c.third_of-c.ensures).1 in
    record { k_lt = P.k_lt; nodes_in_bounds = low_room R P.k_lt Q c.args.area.now _ P.k_in_bounds }

pub put_middle-j-requires : goal.put_middle-j-requires
put_middle-j-requires c = let P = c.requires in
    let R = laid_of c.args.self.now P.plain in
    let Q = (positions P.k_lt c.low_end-a.ensures.0 c.high_end-b.ensures.0 c.third_of-c.ensures).1 in
    record { plain = P.plain; k_is = (own_edge R P.k_lt Q, P.k_lt); nodes_in_bounds = middle_room R P.k_lt Q _ _ P.k_in_bounds c.put_ring-i.ensures }

pub put_ring-requires : goal.put_ring-requires
put_ring-requires c = let P = c.requires in
    let R = laid_of c.args.self.now P.plain in
    let Q = (positions P.k_lt c.low_end-a.ensures.0 c.high_end-b.ensures.0 c.third_of-c.ensures).1 in
    record { k_lt = P.k_lt; nodes_in_bounds = high_room R P.k_lt Q _ _ P.k_in_bounds c.put_ring-i.ensures c.put_middle-j.ensures }

pub returns : goal.returns
returns c = let P = c.requires in
    let R = laid_of c.args.self.now P.plain in
    let Q = (positions P.k_lt c.low_end-a.ensures.0 c.high_end-b.ensures.0 c.third_of-c.ensures).1 in
    on_stored R P.k_lt Q _ _ P.k_in_bounds c.put_ring-i.ensures c.put_middle-j.ensures c.put_ring.ensures
