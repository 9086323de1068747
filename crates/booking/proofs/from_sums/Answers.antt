use Rattle.booking.proofs.Sums.{remains_median}
use Rattle.booking.proofs.from_sums.Goals as goal

pub returns : goal.returns
returns c = (rw (c.max-most.ensures, c.max.ensures, c.min-least.ensures, c.min.ensures, remains_median _ _ _) at c.of_three.ensures.0, c.of_three.ensures.1)
