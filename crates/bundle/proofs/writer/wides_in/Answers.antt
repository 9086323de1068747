use Prim.Native.Nat.{◌+◌}
use mathlib.Core.Path.{◌≡◌, refl, ap}
use native.Mathlib.Numerals.{add-one}
use native.Mathlib.Omega.{arith}
use lib.ListN.{length, get_or}
use borrow.Author.Tests.{le-leb, lt-leb}
use Rattle.counting.specs.Search.{count}
use Rattle.counting.proofs.Search.{count_le}
use Rattle.bundle.specs.Record.{is_wide}
use Rattle.bundle.specs.work.Needed.{wides}
use Rattle.bundle.proofs.writer.wides_in.Goals as goal
use Rattle.bundle.proofs.writer.wides_in.Goals.{then-count-ge-BYTE_VALUES, else-count-ge-BYTE_VALUES}

pub loop-count-init : goal.loop-count-init
unfolding count
loop-count-init c = refl

pub overflow_add-n : goal.overflow_add-n
overflow_add-n c = omega (arith, c.loop-count.invariant, count_le (λ i. is_wide (get_or c.args.counts.now i 0)) c.loop-count.count-index)

pub loop-count-preserved : goal.loop-count-preserved
unfolding count
loop-count-preserved c =
    elim c.if-count-ge-BYTE_VALUES.branch [
      | then-count-ge-BYTE_VALUES w ↦ rw (w.n-is, add-one c.loop-count.count-index, le-leb _ _ w.if-count-ge-BYTE_VALUES.true) (ap (λ n. n + 1) c.loop-count.invariant)
      | else-count-ge-BYTE_VALUES w ↦ rw (w.n-is, add-one c.loop-count.count-index, lt-leb _ _ w.if-count-ge-BYTE_VALUES.false) (omega (arith, c.loop-count.invariant))
    ]

pub returns : goal.returns
unfolding wides
returns c =
    let e : c.loop-count.count-index ≡ length c.args.counts.now = omega arith in
    rw e at c.loop-count.invariant
