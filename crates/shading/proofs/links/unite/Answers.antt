use native.Mathlib.Omega.{arith}
use Rattle.shading.proofs.Ties.{united_one, united_lower, united_higher}
use Rattle.shading.proofs.links.unite.Goals as goal

pub find-b-requires : goal.find-b-requires
find-b-requires c = let A = c.find-a.ensures in
    let P = c.requires.unitable in
    record { forest = A.halved.forest; linked = A.halved.nodes.kept _ P.high_linked }

pub returns-then-p-q : goal.returns-then-p-q
returns-then-p-q c = let a = c.args in
    let A = c.find-a in
    let B = c.find-b in
    united_one a.links.now _ _ a.u a.v a.count A.result B.result A.ensures B.ensures c.if-p-q.true

pub returns-then-p-q-2 : goal.returns-then-p-q-2
returns-then-p-q-2 c = let a = c.args in
    let A = c.find-a in
    let B = c.find-b in
    united_lower a.links.now _ _ a.u a.v a.count A.result B.result A.ensures B.ensures c.if-p-q-2.true

pub returns-else-p-q-2 : goal.returns-else-p-q-2
returns-else-p-q-2 c = let a = c.args in
    let A = c.find-a in
    let B = c.find-b in
    united_higher a.links.now _ _ a.u a.v a.count A.result B.result A.ensures B.ensures (omega (arith, c.if-p-q-2.false, c.if-p-q.false))
