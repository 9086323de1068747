use native.Mathlib.Omega.{arith}
use Rattle.cell.specs.Level.{by_edge}
use Rattle.cell.proofs.Nesting.{count_first, count_later}
use Rattle.cell.proofs.nests.count_on.Goals as goal

pub returns-then-e-eq0 : goal.returns-then-e-eq0
returns-then-e-eq0 c = (count_first (by_edge c.args.six) c.args.e c.if-e-eq0.true c.pair_of-most.ensures.0 c.pair_of.ensures.0 c.saturating_sub.ensures, omega (arith, c.saturating_sub.ensures, c.pair_of-most.ensures.1))

pub returns : goal.returns
returns c = (count_later (by_edge c.args.six) c.args.e c.if-e-eq0.false c.pair_of-most.ensures.0 c.pair_of-2.ensures.0 c.saturating_sub-2.ensures, omega (arith, c.saturating_sub-2.ensures, c.pair_of-most.ensures.1))
