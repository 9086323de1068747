use Prim.Native.Nat.{ℕ, ◌+◌}
use mathlib.Core.Path.{◌≡◌, refl, ap, ◌∙◌}
use native.Mathlib.Omega.{arith}
use lib.ListN.{length}
use lib.Seq.{sets, length-sets}
use Rattle.counting.specs.Lists.{values}
use Rattle.counting.proofs.Stored.{sets_more}
use Rattle.layers.proofs.Namings.{sets_none}
use Rattle.layers.proofs.words.number_edge.Goals as goal

pub loop-i-init : goal.loop-i-init
loop-i-init c = sets_none _ _ _

pub overflow_add-over : goal.overflow_add-over
overflow_add-over c = omega (arith, c.requires.0, c.requires.1)

pub overflow_cast-over : goal.overflow_cast-over
overflow_cast-over c = omega (arith, c.requires.0, c.requires.1)

pub overflow_add-over-in-loop-i : goal.overflow_add-over-in-loop-i
overflow_add-over-in-loop-i c = omega (arith, c.requires.0)

pub offset_bounds-over-own : goal.offset_bounds-over-own
offset_bounds-over-own c = omega (arith, c.requires.0)

pub bounds-over-own : goal.bounds-over-own
bounds-over-own c = let A = c.args in
    omega (arith, c.requires.0, ap length c.loop-i.invariant, length-sets A.over.now A.own (values (λ k. A.first + k) c.loop-i.i))

pub loop-i-preserved : goal.loop-i-preserved
loop-i-preserved c = let A = c.args in
    let L = c.loop-i in
    sets_more (λ k. A.first + k) A.own L.i A.over.now L.over (A.own + L.i) _ L.invariant refl refl

pub shape_of-over : goal.shape_of-over
shape_of-over c = let A = c.args in
    ap length c.loop-i.invariant ∙ length-sets A.over.now A.own (values (λ k. A.first + k) c.loop-i.i)

pub returns : goal.returns
returns c = let A = c.args in
    let e : c.loop-i.i ≡ A.n = omega arith in
    c.loop-i.invariant ∙ ap (λ (k : ℕ). sets A.over.now A.own (values (λ i. A.first + i) k)) e
