use Prim.Native.Nat.{◌+◌, ◌*◌, ◌<◌}
use mathlib.Core.Path.{refl, sym, ap₂, subst}
use native.Mathlib.Omega.{arith}
use Rattle.counting.proofs.Stored.{stored_as}
use Rattle.cell.specs.Of.{count_of}
use Rattle.booking.specs.Booking.{larger, smaller}
use Rattle.split.proofs.Nested.{left_some, left_working}
use Rattle.split.proofs.Putting.{sound_placed, none_left, none_room, inner_left, inner_less, room_start, room_nested, room_end, all_stored, working_at}
use Rattle.split.proofs.+split_in.Goals as goal

pub put-requires : goal.put-requires
put-requires t c = record { starts_near = sound_placed c.requires.splits_left.sound; only_in_bounds = none_room c.requires.splits_left c.args.at c.if-left-eq0.true c.requires.c_in_bounds }

pub of-s-requires : goal.of-s-requires
of-s-requires t c = let L = c.requires.splits_left in record { sound = L.sound; spiral = left_some L (omega (arith, c.if-left-eq0.false)) }

pub returns-then-left-eq0 : goal.returns-then-left-eq0
returns-then-left-eq0 t c = stored_as c.put.ensures (sym (none_left c.requires.splits_left c.if-left-eq0.true)) refl

pub nested-nested-requires : goal.nested-nested-requires
nested-nested-requires t c = let h : 0 < c.args.left = omega (arith, c.if-left-eq0.false) in
    let W = left_working c.requires.splits_left h in
    let N = c.of-s.ensures.numbers in
    record { by_bound = (omega (arith, W.n_few), omega (arith, W.b_few, N.larger_is, N.smaller_is), W.f_few) }

pub put_start-i-requires : goal.put_start-i-requires
put_start-i-requires t c = let h : 0 < c.args.left = omega (arith, c.if-left-eq0.false) in
    let E = c.of-s.ensures in
    let N = E.numbers in
    let e = rw E.cell_is at c.sub_cell-inner.ensures in
    let k = ap₂ (λ x y. c.args.by.crossing + 2 * (x + y)) N.larger_is N.smaller_is in
    record { working = rw E.cell_is (left_working c.requires.splits_left h); s_in_bounds = rw E.cell_is (room_start c.requires.splits_left h e refl k c.args.area.now c.args.at c.requires.c_in_bounds) }

pub split_in-k-requires : goal.split_in-k-requires
split_in-k-requires t c = let L = c.requires.splits_left in
    let h : 0 < c.args.left = omega (arith, c.if-left-eq0.false) in
    let E = c.of-s.ensures in
    let N = E.numbers in
    let e = rw E.cell_is at c.sub_cell-inner.ensures in
    let k = ap₂ (λ x y. c.args.by.crossing + 2 * (x + y)) N.larger_is N.smaller_is in
    let S = rw E.cell_is at c.put_start-i.ensures in
    rw c.nested-nested.ensures (
      subst (λ m. larger (count_of c.sub_cell-inner.result) + smaller (count_of c.sub_cell-inner.result) < m) c.decreases (inner_less L h e refl k),
      (inner_left L h e refl k, room_nested L h e refl k c.args.area.now c.args.at c.requires.c_in_bounds S),
    )

pub put_end-requires : goal.put_end-requires
put_end-requires t c = let L = c.requires.splits_left in
    let h : 0 < c.args.left = omega (arith, c.if-left-eq0.false) in
    let E = c.of-s.ensures in
    let N = E.numbers in
    let e = rw E.cell_is at c.sub_cell-inner.ensures in
    let k = ap₂ (λ x y. c.args.by.crossing + 2 * (x + y)) N.larger_is N.smaller_is in
    let S = rw E.cell_is at c.put_start-i.ensures in
    let T = rw c.nested-nested.ensures at c.split_in-k.ensures in
    record { working = rw E.cell_is (working_at (left_working L h) _ (omega (arith, L.n_few))); s_in_bounds = rw E.cell_is (room_end L h e refl k c.args.area.now c.args.at c.requires.c_in_bounds S T) }

pub returns : goal.returns
returns t c = let L = c.requires.splits_left in
    let h : 0 < c.args.left = omega (arith, c.if-left-eq0.false) in
    let E = c.of-s.ensures in
    let N = E.numbers in
    let e = rw E.cell_is at c.sub_cell-inner.ensures in
    let k = ap₂ (λ x y. c.args.by.crossing + 2 * (x + y)) N.larger_is N.smaller_is in
    let S = rw E.cell_is at c.put_start-i.ensures in
    let T = rw c.nested-nested.ensures at c.split_in-k.ensures in
    let U = rw E.cell_is at c.put_end.ensures in
    all_stored L h e refl k c.args.area.now c.args.at c.requires.c_in_bounds S T U
