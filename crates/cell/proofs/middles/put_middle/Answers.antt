use Rattle.cell.proofs.Fans.{put_none, put_one}
use Rattle.cell.proofs.middles.put_middle.Goals as goal

pub returns-then-fan_of-eq0 : goal.returns-then-fan_of-eq0
returns-then-fan_of-eq0 c = let a = c.args in put_none a.c a.q a.nodes.now a.halves.now a.points.now a.normal a.area.now a.at c.fan_of.result c.fan_of.ensures c.if-fan_of-eq0.true

pub middle_in-p-requires : goal.middle_in-p-requires
middle_in-p-requires c = c.requires.nest

pub returns : goal.returns
returns c = let a = c.args in put_one a.c a.q a.nodes.now a.halves.now a.points.now a.normal a.area.now a.at c.fan_of.result c.fan_of.ensures c.if-fan_of-eq0.false c.requires.room c.middle_in-p.ensures c.store.ensures
