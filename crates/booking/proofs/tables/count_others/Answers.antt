use native.Mathlib.Omega.{arith}
use Rattle.booking.proofs.Totals.{others_few}
use Rattle.booking.proofs.tables.count_others.Goals as goal

pub returns-then-crossings-eq0 : goal.returns-then-crossings-eq0
returns-then-crossings-eq0 c = let A = c.args.tables in
    (omega (arith, others_few A.cells.now A.counts.now A.names.now A.sides.now A.starts.now, c.requires, c.if-crossings-eq0.true), omega arith)
