use native.Mathlib.Omega.{arith}
use borrow.Author.Count.{below_more}
use borrow.Author.Tests.{le-ltb, lt-ltb}
use Rattle.counting.proofs.Search.{found_end, found_hit}
use Rattle.grid.specs.Rows.{bad_count}
use Rattle.grid.proofs.edges.row_18.Goals as goal

pub returns-then-counts-e-gt-MOST_COUNT : goal.returns-then-counts-e-gt-MOST_COUNT
unfolding bad_count
returns-then-counts-e-gt-MOST_COUNT c = found_hit _ _ _ (omega arith) (lt-ltb _ _ c.if-counts-e-gt-MOST_COUNT.true) c.loop-e.invariant

pub loop-e-preserved : goal.loop-e-preserved
unfolding bad_count
loop-e-preserved c = below_more _ _ c.loop-e.invariant (le-ltb _ _ c.if-counts-e-gt-MOST_COUNT.false)

pub returns : goal.returns
returns c = found_end _ _ (λ i h. c.loop-e.invariant i (omega arith))
