use Rattle.booking.specs.Booking.{median}
use Rattle.split.proofs.numbers.median_of.Goals as goal

pub returns : goal.returns
unfolding median
returns c = cc
