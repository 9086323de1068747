use mathlib.Core.Path.{refl}
use native.Mathlib.Omega.{arith}
use Rattle.split.proofs.Tables.{table_drawable}
use Rattle.split.proofs.Spotted.{spots_none}
use Rattle.split.proofs.spots.spots_at.Goals as goal

pub returns-then-splits-eq0 : goal.returns-then-splits-eq0
returns-then-splits-eq0 c = let A = c.args in
    spots_none (table_drawable A.tables.cells.now A.tables.counts.now A.tables.names.now A.tables.sides.now A.tables.starts.now A.c refl c.counts_at.ensures c.gain_of-splits.ensures) c.if-splits-eq0.true

pub spots_of-requires : goal.spots_of-requires
spots_of-requires c = let A = c.args in record { drawable = table_drawable A.tables.cells.now A.tables.counts.now A.tables.names.now A.tables.sides.now A.tables.starts.now A.c c.cell_at.ensures c.counts_at.ensures c.gain_of-splits.ensures; splits_nonzero = omega (arith, c.if-splits-eq0.false) }
