use mathlib.Core.Path.{◌∙◌, sym}
use native.Mathlib.Omega.{arith}
use Rattle.counting.proofs.Search.{some_found, some_miss, some_zero}
use Rattle.grid.proofs.Crossings.{start_next, start_zero}
use Rattle.grid.proofs.Starts.{bad-start, fine_start}
use Rattle.grid.proofs.edges.bad_starts.Goals as goal

pub loop-e-init : goal.loop-e-init
loop-e-init c = (sym (start_zero _), some_zero _)

pub returns-then-starts-e : goal.returns-then-starts-e
returns-then-starts-e c = let l = c.loop-e in
    sym (some_found _ _ l.e (omega arith) (bad-start _ _ _ (λ q. c.if-starts-e.true (q ∙ sym l.invariant.0))))

pub loop-e-preserved : goal.loop-e-preserved
loop-e-preserved c = let l = c.loop-e in
    (omega (arith, start_next c.args.counts.now l.e, l.invariant.0), some_miss _ l.e (fine_start _ _ _ (c.if-starts-e.false ∙ l.invariant.0)) ∙ l.invariant.1)
