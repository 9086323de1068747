use Prim.Native.Nat.{ℕ, ◌+◌}
use mathlib.Core.Path.{◌∙◌, ◌≡◌, ap, sym}
use native.Mathlib.Omega.{arith}
use lib.ListN.{length}
use Rattle.counting.specs.Stored.{filled}
use Rattle.counting.proofs.Stored.{filled_more, filled_none}
use Rattle.grid.specs.Grid.{start}
use Rattle.grid.proofs.Crossings.{start_mono, start_next, start_zero}
use Rattle.flat.proofs.steps.put_starts.Goals as goal

pub loop-e-init : goal.loop-e-init
loop-e-init c = record { sum = sym (start_zero _); stored = filled_none _ _ }

pub overflow_add-s : goal.overflow_add-s
overflow_add-s c = let c-loop = c.loop-e in
    let c-args = c.args in
    let c-pre = c.requires in
    omega (arith, c-pre.counts_bound, c-loop.invariant.sum, start_next c-args.counts.now c-loop.e, start_mono c-args.counts.now (c-loop.e + 1) (length c-args.counts.now) (omega arith))

pub loop-e-preserved : goal.loop-e-preserved
loop-e-preserved c = let c-loop = c.loop-e in
    let c-args = c.args in
    record { sum = omega (arith, start_next c-args.counts.now c-loop.e, c-loop.invariant.sum); stored = filled_more (start c-args.counts.now) _ _ _ _ c-loop.invariant.stored c-loop.invariant.sum }

pub returns : goal.returns
returns c = let c-loop = c.loop-e in
    let c-args = c.args in
    let e : c-loop.e ≡ length c-args.counts.now = omega arith in c-loop.invariant.stored ∙ ap (λ (x : ℕ). filled (start c-args.counts.now) x c-args.starts.now) e
