use native.Mathlib.Omega.{arith}
use Rattle.direct.proofs.Over.{fans_over}
use Rattle.direct.proofs.placing.count_fans.Goals as goal

pub returns-then-pass_over-n : goal.returns-then-pass_over-n
returns-then-pass_over-n c = let A = c.args in
    (fans_over A.tables.cells.now A.tables.counts.now A.tables.names.now A.tables.sides.now A.tables.starts.now c.drawn-n.ensures c.pass_over.ensures c.if-pass_over-n.true, omega arith)
