use lib.Ieee.{of_bits, of_int}
use Rattle.places.specs.Numbers.{proper_fraction}
use Rattle.places.proofs.is_proper.Goals as goal

pub returns-then-s : goal.returns-then-s
unfolding proper_fraction of_bits of_int
returns-then-s c = rw c.if-s.true

pub returns-else-s : goal.returns-else-s
unfolding proper_fraction of_bits of_int
returns-else-s c = rw c.if-s.false
