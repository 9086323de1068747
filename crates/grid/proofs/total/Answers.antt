use Prim.Native.Nat.{◌+◌}
use mathlib.Core.Path.{◌∙◌, ◌≡◌, ap, sym}
use native.Mathlib.Omega.{arith}
use lib.ListN.{length}
use Rattle.grid.specs.Grid.{crossings, start}
use Rattle.grid.proofs.Crossings.{capped_is, capped_over, start_mono, start_next, start_zero}
use Rattle.grid.proofs.total.Goals as goal

pub loop-e-init : goal.loop-e-init
loop-e-init c = (omega arith, sym (start_zero _))

pub returns-then-sum-gt-MOST_CROSSINGS : goal.returns-then-sum-gt-MOST_CROSSINGS
returns-then-sum-gt-MOST_CROSSINGS c = let c-loop = c.loop-e in
    let l = c.args.counts.now in
    let i = c-loop.e in
    capped_over l (omega (arith, start_next l i, start_mono l (i + 1) (length l) (omega arith), c.if-sum-gt-MOST_CROSSINGS.true, c-loop.invariant.1))

pub loop-e-preserved : goal.loop-e-preserved
loop-e-preserved c = let c-loop = c.loop-e in
    let l = c.args.counts.now in
    let i = c-loop.e in
    (omega (arith, c.if-sum-gt-MOST_CROSSINGS.false), omega (arith, start_next l i, c-loop.invariant.1))

pub returns : goal.returns
returns c = let l = c.args.counts.now in
    let e : c.loop-e.e ≡ length l = omega arith in
    let f : c.loop-e.sum ≡ crossings l = c.loop-e.invariant.1 ∙ ap (start l) e in
    f ∙ capped_is l (omega (arith, c.loop-e.invariant.0))
