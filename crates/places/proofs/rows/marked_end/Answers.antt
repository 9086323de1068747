use Prim.Native.Nat.{◌+◌, ◌-◌}
use mathlib.Core.Path.{◌∙◌, ◌≡◌, sym, ap}
use native.Mathlib.Omega.{arith}
use Rattle.counting.specs.Search.{last}
use Rattle.counting.proofs.Search.{last_none}
use Rattle.places.specs.work.Work.{is_marked}
use Rattle.places.proofs.Marks.{end_here, end_below}
use Rattle.places.proofs.rows.marked_end.Goals as goal

pub returns-then-used-v-eq1 : goal.returns-then-used-v-eq1
returns-then-used-v-eq1 c = let l = c.loop-v in
    let e : l.v - 1 + 1 ≡ l.v = omega arith in
    e ∙ sym (l.invariant ∙ end_here c.args.used.now l.v (omega arith) c.if-used-v-eq1.true)

pub loop-v-preserved : goal.loop-v-preserved
loop-v-preserved c = let l = c.loop-v in l.invariant ∙ end_below c.args.used.now l.v (omega arith) c.if-used-v-eq1.false

pub returns : goal.returns
returns c = let l = c.loop-v in let z : l.v ≡ 0 = omega arith in let t = is_marked c.args.used.now in sym (l.invariant ∙ ap (last t) z ∙ last_none t)
