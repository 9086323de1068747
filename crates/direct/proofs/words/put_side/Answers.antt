use Rattle.cell.proofs.Storing.{side_stored}
use Rattle.direct.proofs.words.put_side.Goals as goal

pub returns : goal.returns
returns c = side_stored c.args.s _ _ _ c.put_two.ensures c.side_face.ensures c.side_number.ensures
