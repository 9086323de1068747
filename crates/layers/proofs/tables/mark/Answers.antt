use Prim.Native.Nat.{ℕ}
use mathlib.Core.Path.{◌≡◌, ◌∙◌, refl, subst}
use native.Mathlib.Omega.{arith}
use lib.ListN.{length-set}
use Rattle.layers.specs.work.Work.{EdgesMarked}
use Rattle.layers.proofs.Steps.{marked_none, marked_more}
use Rattle.layers.proofs.tables.mark.Goals as goal

pub loop-j-init : goal.loop-j-init
loop-j-init c = marked_none _ _ _ _ c.requires.below

pub offset_bounds-sides-from : goal.offset_bounds-sides-from
offset_bounds-sides-from c = omega (arith, c.requires.few)

pub bounds-sides-from : goal.bounds-sides-from
bounds-sides-from c = omega (arith, c.requires.fits)

pub offset_bounds-used-e : goal.offset_bounds-used-e
offset_bounds-used-e c = omega (arith, c.requires.edge c.loop-j.j (omega arith))

pub bounds-used-e : goal.bounds-used-e
bounds-used-e c = omega (arith, c.requires.edge c.loop-j.j (omega arith), c.loop-j.invariant.same, c.requires.long)

pub overflow_add-used : goal.overflow_add-used
overflow_add-used c = omega (arith, c.requires.edge c.loop-j.j (omega arith))

pub offset_bounds-used-e-in-loop-j : goal.offset_bounds-used-e-in-loop-j
offset_bounds-used-e-in-loop-j c = omega (arith, c.requires.edge c.loop-j.j (omega arith))

pub bounds-used-e-in-loop-j : goal.bounds-used-e-in-loop-j
bounds-used-e-in-loop-j c = omega (arith, c.requires.edge c.loop-j.j (omega arith), c.loop-j.invariant.same, c.requires.long, length-set {A = ℕ})

pub loop-j-preserved : goal.loop-j-preserved
loop-j-preserved c = let I = c.loop-j.invariant in
    marked_more I _ refl (omega (arith, c.requires.edge c.loop-j.j (omega arith))) (I.same ∙ c.requires.long)

pub shape_of-used : goal.shape_of-used
shape_of-used c = c.loop-j.invariant.same

pub returns : goal.returns
returns c = let A = c.args in
    let e : c.loop-j.j ≡ A.n = omega arith in
    subst (λ k. EdgesMarked A.from k A.m A.sides.now A.used.now c.loop-j.used) e c.loop-j.invariant
