use mathlib.Core.Path.{refl}
use Rattle.nearest.specs.Distance.{square, squared_distance}
use Rattle.nearest.proofs.squared_distance.Goals as goal

pub returns : goal.returns
unfolding squared_distance square
returns c = refl
