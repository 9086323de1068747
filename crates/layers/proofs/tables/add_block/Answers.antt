use Prim.Native.Nat.{ℕ, ◌+◌, ◌-◌}
use mathlib.Core.Path.{◌≡◌, ap, ap₂, ◌∙◌}
use native.Mathlib.Omega.{arith}
use lib.ListN.{length}
use lib.Seq.{sets, length-sets}
use Rattle.counting.specs.Lists.{values}
use Rattle.layers.specs.work.Work.{marked_start}
use Rattle.layers.proofs.Steps.{sum_more, block_none, block_more}
use Rattle.layers.proofs.tables.add_block.Goals as goal

pub loop-e-init : goal.loop-e-init
loop-e-init c = let A = c.args in
    let P = c.requires in
    (P.sum, P.small, block_none A.counts.now A.used.now A.m A.at A.starts.now)

pub offset_bounds-starts-e : goal.offset_bounds-starts-e
offset_bounds-starts-e c = omega (arith, c.requires.inside, c.requires.few)

pub bounds-starts-e : goal.bounds-starts-e
bounds-starts-e c = let A = c.args in let L = c.loop-e in omega (arith, c.requires.inside, c.requires.room, ap length L.invariant.2, length-sets A.starts.now A.at (values (λ i. marked_start A.counts.now A.used.now A.m (A.at + i)) (L.e - A.at)))

pub offset_bounds-used-e : goal.offset_bounds-used-e
offset_bounds-used-e c = omega (arith, c.requires.inside, c.requires.few)

pub bounds-used-e : goal.bounds-used-e
bounds-used-e c = omega (arith, c.requires.inside, c.requires.few, c.requires.marks)

pub offset_bounds-counts-e : goal.offset_bounds-counts-e
offset_bounds-counts-e c = omega (arith, c.requires.inside, c.requires.few)

pub bounds-counts-e : goal.bounds-counts-e
bounds-counts-e c = omega (arith, c.requires.inside)

pub overflow_add-sum : goal.overflow_add-sum
overflow_add-sum c = omega (arith, c.counted-sum.ensures.1, c.loop-e.invariant.1, c.requires.inside, c.requires.few)

pub loop-e-preserved : goal.loop-e-preserved
loop-e-preserved c = let A = c.args in
    let L = c.loop-e in (
      ap₂ (λ x y. x + y) L.invariant.0 c.counted-sum.ensures.0 ∙ sum_more A.counts.now A.used.now A.m L.e,
      omega (arith, c.counted-sum.ensures.1, L.invariant.1),
      block_more A.counts.now A.used.now A.m A.at L.e A.starts.now (omega arith) L.invariant.2 L.invariant.0,
    )

pub shape_of-starts : goal.shape_of-starts
shape_of-starts c = let A = c.args in let L = c.loop-e in ap length L.invariant.2 ∙ length-sets A.starts.now A.at (values (λ i. marked_start A.counts.now A.used.now A.m (A.at + i)) (L.e - A.at))

pub returns : goal.returns
returns c = let A = c.args in
    let L = c.loop-e in
    let e : L.e ≡ A.end = omega arith in
    record { value = (L.invariant.0 ∙ ap (marked_start A.counts.now A.used.now A.m) e, omega (arith, L.invariant.1)); starts_after = L.invariant.2 ∙ ap (λ (k : ℕ). sets A.starts.now A.at (values (λ i. marked_start A.counts.now A.used.now A.m (A.at + i)) (k - A.at))) e }
