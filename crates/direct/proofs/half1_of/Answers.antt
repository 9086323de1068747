use Rattle.direct.specs.claims.Direct.{half1}
use Rattle.cell.specs.Triangles.{triangle}
use Rattle.direct.proofs.half1_of.Goals as goal

pub returns : goal.returns
unfolding half1 triangle
returns c = cc
