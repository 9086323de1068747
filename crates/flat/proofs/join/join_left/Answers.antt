use mathlib.Core.Path.{◌∙◌, ap}
use native.Mathlib.Omega.{arith}
use Rattle.face.specs.Face.{count_on, face_answer}
use Rattle.flat.specs.work.Work.{stretched}
use Rattle.flat.proofs.Squeeze.{some_at, else_join, at_join, gap_join, index_low}
use Rattle.flat.proofs.join.join_left.Goals as goal

pub less_at-x-requires : goal.less_at-x-requires
unfolding count_on
less_at-x-requires c = some_at _ _ _ _ c.requires 0

pub less_at-y-requires : goal.less_at-y-requires
unfolding count_on
less_at-y-requires c = some_at _ _ _ _ c.requires 1

pub less_at-z-requires : goal.less_at-z-requires
unfolding count_on
less_at-z-requires c = some_at _ _ _ _ c.requires 2

pub stretch-requires : goal.stretch-requires
stretch-requires c = rw c.face_join.ensures (index_low _ _ _ _ _ (omega arith) (omega arith) (omega arith))

pub returns-then-edge-m : goal.returns-then-edge-m
returns-then-edge-m c = let c-lower-corner = c.lower_corner-g in
    let c-less-at3 = c.less_at-z in
    let c-less-at2 = c.less_at-y in
    let c-less-at = c.less_at-x in
    let c-pre = c.requires in
    c.stretch.ensures ∙ ap (stretched _ _) c.face_join.ensures ∙ else_join _ _ _ _ (c-pre) _ _ _ _ c-less-at.ensures c-less-at2.ensures c-less-at3.ensures c-lower-corner.ensures _ _ c.if-edge-m.true

pub returns-then-index-g : goal.returns-then-index-g
returns-then-index-g c = let c-less-at3 = c.less_at-z in
    let c-less-at2 = c.less_at-y in
    let c-less-at = c.less_at-x in
    let c-pre = c.requires in
    gap_join _ _ _ _ (c-pre) _ _ _ _ c-less-at.ensures c-less-at2.ensures c-less-at3.ensures c.lower_corner-g.ensures _ _ c.if-edge-m.false c.if-index-g.true

pub stretch-requires-2 : goal.stretch-requires-2
stretch-requires-2 c = rw c.face_join-2.ensures (index_low _ _ _ _ _ (omega arith) (omega arith) (omega arith))

pub returns : goal.returns
returns c = let c-if2 = c.if-index-g in
    let c-if1 = c.if-edge-m in
    let c-lower-corner = c.lower_corner-g in
    let c-less-at3 = c.less_at-z in
    let c-less-at2 = c.less_at-y in
    let c-less-at = c.less_at-x in
    let c-pre = c.requires in
    c.stretch-2.ensures ∙ ap (stretched _ _) (c.face_join-2.ensures ∙ ap (face_answer _ _ _ _) c.squeeze.ensures) ∙ at_join _ _ _ _ (c-pre) _ _ _ _ c-less-at.ensures c-less-at2.ensures c-less-at3.ensures c-lower-corner.ensures _ _ c-if1.false c-if2.false
