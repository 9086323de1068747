use native.Mathlib.Omega.{arith}
use Rattle.booking.proofs.Answers.{gain_low, gain_walk, gain_counted}
use Rattle.booking.proofs.gain_of.Goals as goal

pub returns-then-counts-lt-FEWEST : goal.returns-then-counts-lt-FEWEST
returns-then-counts-lt-FEWEST c = gain_low _ (omega arith) c.no_gain.ensures

pub returns-in-Some : goal.returns-in-Some
returns-in-Some c = gain_counted _ c.in-Some.ensures.fans c.gain_by.ensures

pub returns-in-None : goal.returns-in-None
returns-in-None c = gain_walk _ c.in-None.ensures.fans c.no_gain-in-None.ensures
