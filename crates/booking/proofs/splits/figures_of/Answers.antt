use Prim.Native.Nat.{◌+◌, ◌-◌}
use mathlib.Core.Path.{◌≡◌, refl}
use mathlib.Core.Logic.{inl, inr}
use native.Mathlib.Omega.{arith}
use Rattle.booking.proofs.UnderWay.{none_yet, more_added, all_added}
use Rattle.booking.proofs.splits.figures_of.Goals as goal

pub loop-splits-init : goal.loop-splits-init
loop-splits-init c = let m = c.args.d1 + c.args.d2 in
    let e : m - 0 ≡ m = omega arith in
    (rw e (none_yet _ _ _ _ refl refl (omega arith) (omega arith)), refl, omega arith, omega arith)

pub returns-then-x-y : goal.returns-then-x-y
returns-then-x-y c = all_added c.loop-splits.invariant.0 (inr c.if-x-y.true) c.figures_at.ensures

pub loop-splits-preserved : goal.loop-splits-preserved
loop-splits-preserved c = let L = c.loop-splits in
    let m = c.args.d1 + c.args.d2 in
    let e : m - (L.splits + 1) ≡ m - L.splits - 1 = omega arith in
    (rw e (more_added L.invariant.0 (omega arith) (λ e. c.if-x-y.false e) c.saturating_sub-d.ensures c.max-x.ensures c.min-y.ensures), L.invariant.1, L.invariant.2, L.invariant.3)

pub returns : goal.returns
returns c = let L = c.loop-splits in
    let m = c.args.d1 + c.args.d2 in
    let e : L.splits ≡ m = omega arith in
    all_added (rw e at L.invariant.0) (inl (omega arith)) c.figures_at-2.ensures
