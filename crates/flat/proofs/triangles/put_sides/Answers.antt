use Rattle.flat.proofs.Keys.{sides_put}
use Rattle.flat.proofs.triangles.put_sides.Goals as goal

pub returns : goal.returns
returns c = sides_put _ _ _ _ _ _ c.node_at-a.ensures.value c.node_at-b.ensures.value c.node_at-c.ensures.value
