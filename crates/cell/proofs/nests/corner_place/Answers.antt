use Rattle.cell.proofs.nests.corner_place.Goals as goal

pub returns : goal.returns
returns c = c.load.ensures
