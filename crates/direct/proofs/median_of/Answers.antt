use mathlib.Core.Path.{refl, ◌∙◌}
use Rattle.booking.specs.Booking.{median}
use Rattle.direct.proofs.median_of.Goals as goal

pub returns : goal.returns
unfolding median
returns c = c.max-2.ensures ∙ rw (c.min.ensures, c.min-2.ensures, c.max.ensures) refl
