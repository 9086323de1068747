use native.Mathlib.Omega.{arith}
use lib.Dec.{eqb}
use lib.ListN.{length}
use Rattle.counting.specs.Lists.{one, total}
use mathlib.Core.Path.{◌≡◌, ap, ◌∙◌}
use Rattle.cell.specs.work.Round.{crosses_in}
use Rattle.counting.proofs.Stored.{summed_none, summed_more}
use Rattle.cell.proofs.Loops.{cross_at}
use Rattle.cell.proofs.answers.crosses_of.Goals as goal

pub loop-k-init : goal.loop-k-init
loop-k-init c = summed_none _ _

pub overflow_add-x : goal.overflow_add-x
overflow_add-x c = omega (arith, c.loop-k.invariant.few, c.ranges)

pub loop-k-preserved : goal.loop-k-preserved
unfolding cross_at
loop-k-preserved c = summed_more _ _ c.loop-k.invariant _ (c.same-x.ensures.0 ∙ ap (λ a. one (eqb a c.args.e)) c.edge_at.ensures) c.same-x.ensures.1

pub returns : goal.returns
unfolding crosses_in cross_at
returns c = let h : c.loop-k.k ≡ length c.args.halves.now = omega arith in c.loop-k.invariant.is ∙ ap (λ m. total (cross_at c.args.halves.now c.args.e) m 0) h
