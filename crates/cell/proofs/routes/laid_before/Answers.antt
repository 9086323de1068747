use native.Mathlib.Omega.{arith}
use mathlib.Core.Path.{sym, ◌∙◌}
use Rattle.cell.proofs.Route.{before_none, before_more, before_skip, before_all}
use Rattle.cell.proofs.routes.laid_before.Goals as goal
use Rattle.cell.proofs.routes.laid_before.Goals.{then-is_ahead, else-is_ahead}

pub loop-j-init : goal.loop-j-init
loop-j-init c = before_none _

pub is_ahead-requires : goal.is_ahead-requires
is_ahead-requires c = record { k_bound = c.requires; j_bound = omega arith }

pub overflow_add-n : goal.overflow_add-n
overflow_add-n c = omega (arith, c.loop-j.invariant.few, c.count_at-n.ensures.1)

pub loop-j-preserved : goal.loop-j-preserved
loop-j-preserved c = elim c.if-is_ahead.branch [
  | then-is_ahead w ↦ rw w.n-is (before_more c.loop-j.invariant (sym c.is_ahead.ensures ∙ w.if-is_ahead.true) _ w.count_at-n.ensures)
  | else-is_ahead w ↦ rw w.n-is (before_skip c.loop-j.invariant (sym c.is_ahead.ensures ∙ w.if-is_ahead.false))
]

pub returns : goal.returns
returns c = before_all c.loop-j.invariant (omega arith) (omega arith)
