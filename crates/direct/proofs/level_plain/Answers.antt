use Rattle.direct.proofs.Cells.{plain_numbers}
use Rattle.direct.proofs.level_plain.Goals as goal

pub returns : goal.returns
returns c = plain_numbers c.args.six c.own_of-own.result c.own_of-own.ensures c.requires c.left_of-x.ensures c.left_of-y.ensures c.left_of-z.ensures c.min.ensures c.min-2.ensures c.if-min-ne0.false c.median_of.ensures c.all_of-triangles.ensures
