use Prim.Native.Nat.{◌+◌, ◌*◌, ◌<◌}
use mathlib.Core.Path.{refl, ap₂, subst}
use native.Mathlib.Omega.{arith}
use Rattle.cell.specs.Of.{count_of}
use Rattle.booking.specs.Booking.{larger, smaller}
use Rattle.split.proofs.Nested.{left_some, left_working}
use Rattle.split.proofs.Putting.{inner_left, inner_less}
use Rattle.split.proofs.Arms.{none_inner, split_room, inner_room, inner_all}
use Rattle.split.proofs.placing.+inner_in.Goals as goal

pub of-s-requires : goal.of-s-requires
of-s-requires t c = let L = c.requires.splits_left in record { sound = L.sound; spiral = left_some L (omega (arith, c.if-left-eq0.false)) }

pub returns-then-left-eq0 : goal.returns-then-left-eq0
returns-then-left-eq0 t c = let A = c.args in none_inner c.requires.splits_left A.at c.if-left-eq0.true A.area.now A.i

pub put_split-k-requires : goal.put_split-k-requires
put_split-k-requires t c = let L = c.requires.splits_left in
    let A = c.args in
    let h : 0 < A.left = omega (arith, c.if-left-eq0.false) in
    let K = left_working L h in
    record { at_in_bounds = rw c.of-s.ensures.cell_is (split_room L A.at h A.i c.requires.c_in_bounds) }

pub nested-requires : goal.nested-requires
nested-requires t c = let h : 0 < c.args.left = omega (arith, c.if-left-eq0.false) in
    let K = left_working c.requires.splits_left h in
    let N = c.of-s.ensures.numbers in
    record { by_bound = (omega (arith, K.n_few), omega (arith, K.b_few, N.larger_is, N.smaller_is), K.f_few) }

pub inner_in-requires : goal.inner_in-requires
inner_in-requires t c = let L = c.requires.splits_left in
    let A = c.args in
    let h : 0 < A.left = omega (arith, c.if-left-eq0.false) in
    let E = c.of-s.ensures in
    let N = E.numbers in
    let d = rw E.cell_is at c.sub_cell-inner.ensures in
    let q = rw E.cell_is at c.sub_places-places.ensures in
    let S = rw E.cell_is at c.put_split-k.ensures in
    let k = ap₂ (λ x y. A.by.crossing + 2 * (x + y)) N.larger_is N.smaller_is in
    rw c.nested.ensures (
      subst (λ n. larger (count_of c.sub_cell-inner.result) + smaller (count_of c.sub_cell-inner.result) < n) c.decreases (inner_less L h d refl k),
      (inner_left L h d refl k, inner_room L A.at h d refl k q A.area.now A.i c.requires.c_in_bounds c.put_split-k.result S),
    )

pub returns : goal.returns
returns t c = let L = c.requires.splits_left in
    let A = c.args in
    let h : 0 < A.left = omega (arith, c.if-left-eq0.false) in
    let E = c.of-s.ensures in
    let N = E.numbers in
    let d = rw E.cell_is at c.sub_cell-inner.ensures in
    let q = rw E.cell_is at c.sub_places-places.ensures in
    let S = rw E.cell_is at c.put_split-k.ensures in
    let k = ap₂ (λ x y. A.by.crossing + 2 * (x + y)) N.larger_is N.smaller_is in
    let T = rw c.nested.ensures at c.inner_in.ensures in
    inner_all L A.at h d refl k q A.area.now A.i c.requires.c_in_bounds c.put_split-k.result S T
