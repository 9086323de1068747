use mathlib.Core.Path.{refl, sym, ◌∙◌}
use native.Mathlib.Omega.{arith}
use Rattle.shading.proofs.Forests.{finding_none, finding_more, finding_end}
use Rattle.shading.proofs.links.find.Goals as goal

pub loop-p-init : goal.loop-p-init
loop-p-init c = let a = c.args in
    (finding_none a.links.now a.x c.requires, refl)

pub halve-z-requires : goal.halve-z-requires
halve-z-requires c = let l = c.loop-p in
    record { forest = l.invariant.0.halved.forest; linked = l.invariant.0.linked; child = λ e. c.loop-p-test.true (l.invariant.1 ∙ e) }

pub loop-p-smaller : goal.loop-p-smaller
loop-p-smaller c = omega (arith, c.halve-z.ensures.lower)

pub loop-p-preserved : goal.loop-p-preserved
loop-p-preserved c = let l = c.loop-p in
    let a = c.args in
    let h = c.halve-z in
    (finding_more a.links.now a.x l.links l.y l.side l.invariant.0 _ h.result h.ensures, refl)

pub returns : goal.returns
returns c = let l = c.loop-p in finding_end c.args.links.now c.args.x l.links l.y l.side l.invariant.0 (sym l.invariant.1 ∙ c.loop-p-test.false)
