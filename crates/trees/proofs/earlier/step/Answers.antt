use mathlib.Core.Path.{◌≡◌, refl}
use native.Mathlib.Omega.{arith}
use lib.ListN.{length, length-set}
use Rattle.trees.proofs.Planted.{stepped_none, step_top, stepped_more, stepped_all}
use Rattle.trees.proofs.earlier.step.Goals as goal

pub loop-j-init : goal.loop-j-init
loop-j-init c = (refl, stepped_none _ _ _ _ c.requires)

pub bounds-seen-t : goal.bounds-seen-t
bounds-seen-t c = omega (arith, c.loop-j.invariant.1.room, step_top _ _ _ _ _ _ (omega arith) c.loop-j.invariant.1 c.requires.tops_are.room _ refl)

pub bounds-seen-t-in-loop-j : goal.bounds-seen-t-in-loop-j
bounds-seen-t-in-loop-j c = omega (arith, c.loop-j.invariant.1.room, step_top _ _ _ _ _ _ (omega arith) c.loop-j.invariant.1 c.requires.tops_are.room _ refl)

pub loop-j-preserved : goal.loop-j-preserved
loop-j-preserved c = (simp length-set c.loop-j.invariant.0, stepped_more _ _ _ _ _ _ (omega arith) c.loop-j.invariant.1 c.requires.tops_are.room _ refl)

pub returns : goal.returns
returns c = let e : c.loop-j.j ≡ length c.args.keys.now = omega arith in
    stepped_all _ _ _ _ _ c.requires.tops_are.room (rw e at c.loop-j.invariant.1)
