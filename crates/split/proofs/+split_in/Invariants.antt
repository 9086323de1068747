use Prim.Native.Nat.{◌+◌}
use Rattle.cell.specs.Of.{count_of}
use Rattle.booking.specs.Booking.{larger, smaller}
use Rattle.split.proofs.+split_in.Given as goal

-- recursive subdivision: the sum of the two numbers falls from split to split (01)
abbrev pub decreases-split_in : goal.decreases-split_in
decreases-split_in l = larger (count_of l.c) + smaller (count_of l.c)
