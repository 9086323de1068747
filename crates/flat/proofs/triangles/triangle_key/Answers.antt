use Rattle.flat.specs.work.Work.{triangle_key}
use Rattle.flat.proofs.triangles.triangle_key.Goals as goal

pub returns : goal.returns
unfolding triangle_key
returns c = rw (c.node_at-a.ensures.value, c.node_at-b.ensures.value, c.node_at-c.ensures.value)
