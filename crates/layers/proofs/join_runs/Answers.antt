use mathlib.Core.Path.{refl, ◌∙◌}
use native.Mathlib.Omega.{arith}
use Rattle.counting.specs.Lists.{over}
use Rattle.counting.proofs.Stored.{stored_none, stored_long, stored_as, stored_more}
use Rattle.grid.specs.Lent.{lent}
use Rattle.layers.proofs.Laying.{zero_below}
use Rattle.layers.proofs.Calls.{words_of, next_cut, next_words, next_joinable, all_joined}
use Rattle.layers.proofs.join_runs.Goals as goal

pub loop-r-init : goal.loop-r-init
unfolding over
loop-r-init c = record { marks = λ e. omega (arith, zero_below 12480 e); long = refl; stored = stored_none _ 0 }

pub of-run-requires : goal.of-run-requires
of-run-requires c = next_cut c.requires c.loop-r.r (omega arith)

pub join_run-i-requires : goal.join_run-i-requires
join_run-i-requires c = let L = c.loop-r in
    let S = c.of-run.ensures in
    next_joinable c.requires L.r (omega arith) _ _ S.0 S.1 L.invariant.stored refl L.used (λ e. omega (arith, L.invariant.marks e, S.2))

pub loop-r-preserved : goal.loop-r-preserved
loop-r-preserved c = let L = c.loop-r in
    let S = c.of-run.ensures in
    let E = c.join_run-i.ensures in record {
      marks = λ e. omega (arith, E.marks e, S.2);
      long = stored_long E.stored ∙ L.invariant.long;
      stored = stored_more (words_of (lent c.args.whole.grid) c.args.cuts.now) L.r L.invariant.stored (stored_as E.stored (next_words c.requires L.r (omega arith) _ _ S.0 S.1) refl);
    }

pub shape_of-area : goal.shape_of-area
shape_of-area c = c.loop-r.invariant.long

pub returns : goal.returns
returns c = all_joined c.requires c.loop-r.invariant.stored (omega arith)
