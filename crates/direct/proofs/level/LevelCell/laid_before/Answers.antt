use native.Mathlib.Omega.{arith}
use mathlib.Core.Path.{refl, sym, ◌∙◌}
use Rattle.cell.proofs.Route.{before_none, before_more, before_skip, before_all}
use Rattle.direct.proofs.Laying.{counted}
use Rattle.direct.proofs.level.LevelCell.laid_before.Goals as goal
use Rattle.direct.proofs.level.LevelCell.laid_before.Goals.{then-is_before, else-is_before}

pub loop-j-init : goal.loop-j-init
loop-j-init c = before_none _

pub is_before-requires : goal.is_before-requires
is_before-requires c = (c.requires, omega arith)

pub overflow_add-n : goal.overflow_add-n
overflow_add-n c = omega (arith, c.loop-j.invariant.few)

pub loop-j-preserved : goal.loop-j-preserved
loop-j-preserved c = let I = c.loop-j.invariant in
    elim c.if-is_before.branch [
      | then-is_before w ↦ rw w.n-is (before_more I (sym c.is_before.ensures ∙ w.if-is_before.true) _ (counted c.args.self.now.listed _ (omega arith) refl))
      | else-is_before w ↦ rw w.n-is (before_skip I (sym c.is_before.ensures ∙ w.if-is_before.false))
    ]

pub returns : goal.returns
returns c = before_all c.loop-j.invariant (omega arith) (omega arith)
