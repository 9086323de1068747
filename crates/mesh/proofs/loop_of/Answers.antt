use mathlib.Core.Path.{◌∙◌}
use native.Mathlib.Omega.{arith}
use Rattle.mesh.specs.work.Drawn.{table_loop}
use Rattle.mesh.proofs.Askings.{asked_there, asked_beyond, loop_limited}
use Rattle.mesh.proofs.loop_of.Goals as goal

pub returns-then-c-tables : goal.returns-then-c-tables
unfolding table_loop
returns-then-c-tables c = let A = c.args in
    c.loop_at.ensures
    ∙ loop_limited A.tables.cells.now A.tables.counts.now A.tables.names.now A.tables.sides.now A.tables.starts.now A.c A.k c.cell_at-cell.ensures
    ∙ asked_there _ _ _ _ (omega arith)

pub returns : goal.returns
unfolding table_loop
returns c = rw c.at.ensures (asked_beyond _ _ _ _ (omega arith))
