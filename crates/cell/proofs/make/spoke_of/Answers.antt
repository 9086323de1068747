use Rattle.cell.specs.Triangles.{triangle}
use Rattle.cell.specs.work.Traced.{traced_triangle}
use Rattle.cell.proofs.make.spoke_of.Goals as goal

pub returns : goal.returns
unfolding traced_triangle triangle
returns c = cc
