use native.Mathlib.Omega.{arith}
use Rattle.split.proofs.Few.{gain_at}
use Rattle.split.proofs.Tables.{none_more}
use Rattle.split.proofs.drawing.split_from.Goals as goal

pub returns-then-splits-ne0 : goal.returns-then-splits-ne0
returns-then-splits-ne0 c = let A = c.args in
    let g = gain_at A.tables.counts.now A.tables.sides.now c.loop-e.e c.counts_at.ensures c.gain_of-splits.ensures in (
      omega arith,
      record {
        from = omega arith;
        within = omega arith;
        none = c.loop-e.invariant;
        last = λ z. absurd (omega arith);
        after = λ h. (omega arith, g.0);
      },
    )

pub loop-e-preserved : goal.loop-e-preserved
loop-e-preserved c = let A = c.args in
    let I = c.loop-e.invariant in
    let g = gain_at A.tables.counts.now A.tables.sides.now c.loop-e.e c.counts_at.ensures c.gain_of-splits.ensures in
    none_more A.tables.counts.now A.tables.sides.now I (omega (arith, g.0, c.if-splits-ne0.false))
