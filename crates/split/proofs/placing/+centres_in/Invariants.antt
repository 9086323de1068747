use Prim.Native.Nat.{◌+◌}
use Rattle.cell.specs.Of.{count_of}
use Rattle.booking.specs.Booking.{larger, smaller}
use Rattle.split.proofs.placing.+centres_in.Given as goal

-- the sum of the two numbers falls from split to split (01)
abbrev pub decreases-centres_in : goal.decreases-centres_in
decreases-centres_in l = larger (count_of l.c) + smaller (count_of l.c)
