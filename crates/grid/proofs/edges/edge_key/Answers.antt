use mathlib.Core.Path.{refl}
use Rattle.grid.specs.work.Shared.{edge_key}
use Rattle.grid.proofs.edges.edge_key.Goals as goal

pub returns : goal.returns
unfolding edge_key
returns c = refl
