use Rattle.cell.proofs.Storing.{put_all}
use Rattle.cell.proofs.words.put.Goals as goal

pub returns : goal.returns
returns c = put_all _ _ _ _ _ _ _ _ c.put_two.ensures c.put_corners.ensures c.put_side.ensures c.put_side-2.ensures c.put_side-3.ensures
