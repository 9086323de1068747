use borrow.Author.Tests.{eq-eqb, ne_eqb}
use Rattle.booking.specs.Booking.{beside}
use Rattle.booking.proofs.beside_of.Goals as goal

pub returns-then-d2-eq0 : goal.returns-then-d2-eq0
unfolding beside
returns-then-d2-eq0 c = simp (eq-eqb _ _ c.if-d2-eq0.true)

pub returns-else-d2-eq0 : goal.returns-else-d2-eq0
unfolding beside
returns-else-d2-eq0 c = simp (ne_eqb _ _ c.if-d2-eq0.false)
