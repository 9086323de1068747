use native.Mathlib.Omega.{arith}
use borrow.Author.Tests.{le-ltb}
use Rattle.cell.proofs.Route.{fits_all}
use Rattle.cell.proofs.Start.{not_on, may_on}
use Rattle.cell.proofs.walks.is_on.Goals as goal

pub overflow_add-first : goal.overflow_add-first
overflow_add-first c = omega (arith, c.route-n.ensures, c.route-first.ensures, fits_all c.requires.routed _ c.first_of-h.ensures.1)

pub returns-then-p-first : goal.returns-then-p-first
returns-then-p-first c = rw c.route-first.ensures (may_on c.requires.routed _ _ c.requires.e_bound c.first_of-h.ensures.0 c.first_of-h.ensures.1 (rw (c.route-first.ensures, c.route-n.ensures) at c.if-p-first.true))

pub returns-else-p-first : goal.returns-else-p-first
returns-else-p-first c = rw (le-ltb _ _ c.if-p-first.false) (not_on c.requires.routed _ _ c.requires.e_bound c.first_of-h.ensures.0 c.first_of-h.ensures.1 (rw (c.route-first.ensures, c.route-n.ensures) at c.if-p-first.false))
