use Rattle.counting.proofs.Stored.{part_back}
use Rattle.layers.proofs.draw_at.Goals as goal

pub returns : goal.returns
returns c = let A = c.args in
    let D = c.draw.ensures in
    record { triangles_value = D.triangles_value; area_after = part_back A.area.now _ A.at c.requires D.area_after }
