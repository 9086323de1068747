use native.Mathlib.Omega.{arith}
use Rattle.counting.proofs.Range.{total_has}
use Rattle.split.specs.work.Gains.{splits_at}
use Rattle.split.proofs.drawing.next_split.Goals as goal

pub returns-then-splits-eq0 : goal.returns-then-splits-eq0
returns-then-splits-eq0 c = let A = c.args in
    let P = c.requires in
    record {
      from = P.0;
      within = omega arith;
      none = λ k a b. omega (arith, P.1, c.if-splits-eq0.true, total_has (splits_at A.tables.counts.now A.tables.sides.now) A.n 0 k (omega arith) (omega arith));
      last = λ _. omega arith;
      after = λ h. absurd (omega arith);
    }
