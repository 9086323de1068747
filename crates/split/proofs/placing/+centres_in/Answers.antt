use Prim.Native.Nat.{◌+◌, ◌*◌, ◌<◌}
use mathlib.Core.Path.{refl, sym, ap, ap₂, subst}
use native.Mathlib.Omega.{arith}
use Rattle.counting.proofs.Stored.{stored_as}
use Rattle.place.specs.Place.{all_numbers}
use Rattle.cell.specs.Of.{count_of}
use Rattle.booking.specs.Booking.{larger, smaller}
use Rattle.split.proofs.Nested.{left_some, left_working}
use Rattle.split.proofs.Putting.{inner_less}
use Rattle.split.proofs.Centres.{none_nesting, none_fans, none_fans_room, l_nesting, next_spun, first_room, fans_room, fans_all}
use Rattle.split.proofs.placing.+centres_in.Goals as goal

pub put_fans-requires : goal.put_fans-requires
put_fans-requires t c = let W = c.requires.spun in
    let A = c.args in
    let z = c.if-left-eq0.true in record { nesting = none_nesting W A.at z; c_in_bounds = none_fans_room W A.at z A.i c.requires.c_in_bounds }

pub of-s-requires : goal.of-s-requires
of-s-requires t c = let L = c.requires.spun.working in record { sound = L.sound; spiral = left_some L (omega (arith, c.if-left-eq0.false)) }

pub returns-then-left-eq0 : goal.returns-then-left-eq0
returns-then-left-eq0 t c = stored_as c.put_fans.ensures (ap all_numbers (sym (none_fans c.requires.spun c.args.at c.if-left-eq0.true))) refl

pub put_fans-k-requires : goal.put_fans-k-requires
put_fans-k-requires t c = let W = c.requires.spun in
    let h : 0 < c.args.left = omega (arith, c.if-left-eq0.false) in
    let E = c.of-s.ensures in
    let K = left_working W.working h in
    let A = c.args in
    let e = rw E.cell_is at c.sub_cell.ensures in
    let p = rw E.cell_is at c.sub_places.ensures in
    record { nesting = l_nesting W A.at h e refl p K.b_few; c_in_bounds = first_room W A.at h e refl p refl refl refl refl A.area.now A.i c.requires.c_in_bounds }

pub nested-requires : goal.nested-requires
nested-requires t c = let h : 0 < c.args.left = omega (arith, c.if-left-eq0.false) in
    let K = left_working c.requires.spun.working h in
    let N = c.of-s.ensures.numbers in
    record { by_bound = (omega (arith, K.n_few), omega (arith, K.b_few, N.larger_is, N.smaller_is), K.f_few) }

pub centres_in-requires : goal.centres_in-requires
centres_in-requires t c = let W = c.requires.spun in
    let A = c.args in
    let h : 0 < A.left = omega (arith, c.if-left-eq0.false) in
    let E = c.of-s.ensures in
    let N = E.numbers in
    let e = rw E.cell_is at c.sub_cell.ensures in
    let p = rw E.cell_is at c.sub_places.ensures in
    let d = rw E.cell_is at c.sub_cell-inner.ensures in
    let q = rw E.cell_is at c.sub_places-places.ensures in
    let k = ap₂ (λ x y. A.by.crossing + 2 * (x + y)) N.larger_is N.smaller_is in
    rw c.nested.ensures (
      subst (λ n. larger (count_of c.sub_cell-inner.result) + smaller (count_of c.sub_cell-inner.result) < n) c.decreases (inner_less W.working h d refl k),
      (next_spun W A.at h e refl p d refl k q, fans_room W A.at h e refl p d refl k q A.area.now A.i c.requires.c_in_bounds c.put_fans-k.result c.put_fans-k.ensures),
    )

pub returns : goal.returns
returns t c = let W = c.requires.spun in
    let A = c.args in
    let h : 0 < A.left = omega (arith, c.if-left-eq0.false) in
    let E = c.of-s.ensures in
    let N = E.numbers in
    let e = rw E.cell_is at c.sub_cell.ensures in
    let p = rw E.cell_is at c.sub_places.ensures in
    let d = rw E.cell_is at c.sub_cell-inner.ensures in
    let q = rw E.cell_is at c.sub_places-places.ensures in
    let k = ap₂ (λ x y. A.by.crossing + 2 * (x + y)) N.larger_is N.smaller_is in
    let T = rw c.nested.ensures at c.centres_in.ensures in
    fans_all W A.at h e refl p d refl k q A.area.now A.i c.requires.c_in_bounds c.put_fans-k.result c.put_fans-k.ensures T
