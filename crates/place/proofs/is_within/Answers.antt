use lib.Ieee.{of_bits, neg, of_int}
use Rattle.place.specs.Place.{within}
use Rattle.place.proofs.is_within.Goals as goal

pub returns-then-x : goal.returns-then-x
unfolding within of_bits neg of_int
returns-then-x c = rw c.if-x.true

pub returns-else-x : goal.returns-else-x
unfolding within of_bits neg of_int
returns-else-x c = rw c.if-x.false
