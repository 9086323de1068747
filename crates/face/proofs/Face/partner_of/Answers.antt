use mathlib.Core.Path.{refl}
use Rattle.face.specs.Face.{partner}
use Rattle.face.proofs.Calls.{partner_fits}
use Rattle.face.proofs.Face.partner_of.Goals as goal

pub kth_of-requires : goal.kth_of-requires
kth_of-requires c = rw c.other_edge-e.ensures (partner_fits c.requires)

pub returns : goal.returns
unfolding partner
returns c = rw (c.kth_of.ensures, c.other_edge-e.ensures) refl
