use native.Mathlib.Omega.{arith}
use borrow.Author.Tests.{ne_eqb}
use Rattle.cell.specs.Level.{by_edge}
use Rattle.cell.proofs.Levels.{not_even, by_sums}
use Rattle.cell.proofs.level.is_level.Goals as goal

pub returns-then-odd-eq0 : goal.returns-then-odd-eq0
returns-then-odd-eq0 c =
    by_sums (by_edge c.args.counts)
    (omega (arith, c.if-odd-eq0.true, c.odd.ensures.0, c.odd-2.ensures.0, c.odd-3.ensures.0))
    c.highest_pair.ensures c.lowest_node.ensures

pub returns-else-odd-eq0 : goal.returns-else-odd-eq0
returns-else-odd-eq0 c =
    rw (ne_eqb _ _ c.if-odd-eq0.false)
    (not_even (by_edge c.args.counts) (λ e. c.if-odd-eq0.false (omega (arith, e, c.odd.ensures.0, c.odd-2.ensures.0, c.odd-3.ensures.0))))
