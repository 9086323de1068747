use mathlib.Core.Path.{refl}
use native.Mathlib.Omega.{arith}
use borrow.Author.Tests.{eq-eqb, ne_eqb}
use borrow.Author.Count.{below_more, below_none}
use Rattle.counting.proofs.Search.{found_end, found_hit}
use Rattle.grid.proofs.Blocks.{block_found, block_none}
use Rattle.grid.specs.Grid.{cell_count}
use Rattle.grid.proofs.Laying.{tallying_end, tallying_few, tallying_more, tallying_start}
use Rattle.grid.proofs.Sides.{blank_first}
use Rattle.grid.proofs.edges.row_7.Goals as goal

pub loop-j-init : goal.loop-j-init
loop-j-init c = (below_none _, tallying_start c.requires)

pub returns-then-t-eq0 : goal.returns-then-t-eq0
returns-then-t-eq0 c = let a = c.args in record { value = block_found _ _ 6 _ (omega arith) (blank_first a.sides.now (cell_count a.cells.now)) _ (found_hit _ _ _ (omega arith) (eq-eqb _ _ c.if-t-eq0.true) c.loop-j.invariant.0); tallied = λ e. absurd cc }

pub overflow_add-degree : goal.overflow_add-degree
overflow_add-degree c = omega (arith, tallying_few c.requires c.loop-j.invariant.1 (omega arith) _ refl, c.requires.small)

pub loop-j-preserved : goal.loop-j-preserved
loop-j-preserved c = (below_more _ _ c.loop-j.invariant.0 (ne_eqb _ _ c.if-t-eq0.false), tallying_more c.requires c.loop-j.invariant.1 (omega arith) _ refl)

pub returns : goal.returns
returns c = let a = c.args in record { value = block_none _ _ 6 _ (omega arith) (blank_first a.sides.now (cell_count a.cells.now)) (found_end _ _ (λ i h. c.loop-j.invariant.0 i (omega arith))); tallied = λ q. tallying_end c.requires c.loop-j.invariant.1 (omega arith) (omega arith) }
