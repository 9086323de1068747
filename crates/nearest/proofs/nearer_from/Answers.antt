use Rattle.std.proofs.Common.{arith}
use mathlib.Core.Bool.{true, false}
use mathlib.Core.Logic.{⊎_elim}
use Rattle.counting.proofs.Search.{below-or}
use Rattle.nearest.specs.work.Distance.{nearer_than}
use mathlib.Core.Path.{◌≡◌, sym, subst}
use Rattle.nearest.proofs.Least.{nearer_is}
use Rattle.nearest.proofs.nearer_from.Goals as goal

pub loop-k-init : goal.loop-k-init
loop-k-init c = λ q l h. absurd (omega arith)

pub returns-then-d-least : goal.returns-then-d-least
returns-then-d-least c = let a = c.args in
    (omega (arith, c.loop-k.auto.k), omega (arith, c.loop-k-test.true), nearer_is a.points.now a.query c.loop-k.k a.least true c.load.ensures c.squared_distance-d.ensures c.if-d-least.true, c.loop-k.invariant)

pub loop-k-preserved : goal.loop-k-preserved
loop-k-preserved c = let a = c.args in
    let far = nearer_is a.points.now a.query c.loop-k.k a.least false c.load.ensures c.squared_distance-d.ensures c.if-d-least.false in
    λ q l h. ⊎_elim (λ e. subst (λ i. nearer_than a.points.now a.query a.least i ≡ false) (sym e) far) (λ e. c.loop-k.invariant q l e) (below-or q c.loop-k.k (omega (arith, h)))

pub returns : goal.returns
returns c = λ q l h. c.loop-k.invariant q l (omega (arith, c.loop-k.auto.k-end, h))
