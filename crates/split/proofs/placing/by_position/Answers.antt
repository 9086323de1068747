use mathlib.Core.Path.{refl}
use Rattle.split.specs.work.Spots.{positioned}
use Rattle.split.proofs.placing.by_position.Goals as goal

pub returns : goal.returns
unfolding positioned
returns c = refl
