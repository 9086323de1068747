use mathlib.Core.Path.{refl}
use native.Mathlib.Omega.{arith}
use lib.ListN.{length-set}
use Rattle.grid.proofs.Passes.{linking_more, linking_none}
use Rattle.grid.proofs.numbering.link.Goals as goal

pub loop-c-init : goal.loop-c-init
loop-c-init g c = (refl, refl, linking_none _ _ _ c.requires.blank)

pub loop-c-preserved : goal.loop-c-preserved
loop-c-preserved g c = let w = c.loop-c.invariant in
    let p = c.requires in
    (simp length-set w.0, simp length-set w.1, linking_more w.2 _ refl (omega (arith, w.0, p.below c.loop-c.c (omega arith))) (omega (arith, w.1, p.room)))
