use Rattle.direct.specs.claims.Direct.{whole}
use Rattle.cell.specs.Triangles.{triangle}
use Rattle.direct.proofs.whole_of.Goals as goal

pub returns : goal.returns
unfolding whole triangle
returns c = cc
