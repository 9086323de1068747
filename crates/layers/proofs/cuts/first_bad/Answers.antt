use Rattle.std.proofs.Common.{below_more}
use mathlib.Core.Path.{refl}
use mathlib.Core.Logic.{inl, inr, ⊎_elim}
use native.Mathlib.Nat.{not-suc-le-zero}
use native.Mathlib.Omega.{arith}
use Rattle.counting.proofs.Search.{found_hit, found_end}
use Rattle.layers.proofs.Steps.{bad_cut_at, not_bad, start_next}
use Rattle.layers.proofs.cuts.first_bad.Goals as goal

pub loop-i-init : goal.loop-i-init
loop-i-init c = record { before_is = refl; fine = λ k h. absurd (not-suc-le-zero h) }

pub returns-then-cut-before : goal.returns-then-cut-before
returns-then-cut-before c = let I = c.loop-i.invariant in
    found_hit _ _ _ (omega arith) (bad_cut_at _ _ _ I.before_is (⊎_elim inl (λ q. inr q.1) c.then-cut-before.either)) I.fine

pub loop-i-preserved : goal.loop-i-preserved
loop-i-preserved c = record {
  before_is = start_next c.args.cuts.now c.loop-i.i;
  fine = below_more _ _ c.loop-i.invariant.fine (not_bad _ _ _ (omega (arith, c.loop-i.invariant.before_is)) (omega arith));
}

pub returns : goal.returns
returns c = found_end _ _ (λ k h. c.loop-i.invariant.fine k (omega arith))
