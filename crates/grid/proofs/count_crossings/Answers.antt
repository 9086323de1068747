use Prim.Native.Nat.{◌+◌}
use mathlib.Core.Path.{◌∙◌, ◌≡◌, ap, sym}
use native.Mathlib.Omega.{arith}
use lib.ListN.{length}
use Rattle.answer.proofs.Rows.{row_passes, row_refuses, rows_end, whole_fault, whole_fine}
use Rattle.grid.specs.Grid.{crossings, start}
use Rattle.grid.proofs.Crossings.{not_too_many, start_mono, start_next, start_zero, too_many_is}
use Rattle.grid.proofs.count_crossings.Goals as goal

pub loop-count-init : goal.loop-count-init
loop-count-init c = (omega arith, sym (start_zero _))

pub returns-then-sum-gt-MOST_CROSSINGS : goal.returns-then-sum-gt-MOST_CROSSINGS
returns-then-sum-gt-MOST_CROSSINGS c = let L = c.loop-count in
    let l = c.args.counts.now in
    let i = L.count-index in
    let over = too_many_is l (omega (arith, start_next l i, start_mono l (i + 1) (length l) (omega arith), c.if-sum-gt-MOST_CROSSINGS.true, L.invariant.1)) in
    rw c.at.ensures (row_refuses _ _ _ 0 (whole_fault _ over) (omega arith))

pub loop-count-preserved : goal.loop-count-preserved
loop-count-preserved c = let L = c.loop-count in
    (omega (arith, c.if-sum-gt-MOST_CROSSINGS.false), omega (arith, start_next c.args.counts.now L.count-index, L.invariant.1))

pub returns : goal.returns
returns c = let l = c.args.counts.now in
    let L = c.loop-count in
    let e : L.count-index ≡ length l = omega arith in
    let f : L.sum ≡ crossings l = L.invariant.1 ∙ ap (start l) e in
    rw f (rows_end _ ∙ row_passes _ _ _ 1 (whole_fine _ (not_too_many l (omega (arith, L.invariant.0)))) (omega arith))
