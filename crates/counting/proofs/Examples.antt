-- The examples, by computation.
use mathlib.Core.Path.{refl}
use Rattle.counting.specs.Lists.{seek, total, over, kept, pre, tally, gather, it}
use Rattle.counting.specs.examples.Examples.{ExamplesHold}

pub examples_hold : ExamplesHold
unfolding seek total over kept pre tally gather it
examples_hold = refl
