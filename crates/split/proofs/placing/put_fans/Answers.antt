use native.Mathlib.Omega.{arith}
use Rattle.split.proofs.Centres.{fans_stored}
use Rattle.split.proofs.placing.put_fans.Goals as goal

pub returns : goal.returns
returns c = let A = c.args in
    let W = c.write_fans.ensures in
    fans_stored c.requires.nesting A.at (omega arith) A.area.now A.i c.requires.c_in_bounds c.by_position.ensures c.numbers_of-nodes.ensures W.0 W.1
