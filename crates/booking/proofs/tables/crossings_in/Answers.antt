use native.Mathlib.Omega.{arith}
use Rattle.counting.specs.Lists.{total, pre}
use Rattle.booking.proofs.tables.crossings_in.Goals as goal

pub returns : goal.returns
unfolding pre total
returns c = (omega arith, omega arith)
