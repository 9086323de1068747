use Rattle.direct.specs.claims.Direct.{half0}
use Rattle.cell.specs.Triangles.{triangle}
use Rattle.direct.proofs.half0_of.Goals as goal

pub returns : goal.returns
unfolding half0 triangle
returns c = cc
