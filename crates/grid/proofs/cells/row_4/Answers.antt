use mathlib.Core.Path.{◌∙◌, sym}
use native.Mathlib.Omega.{arith}
use borrow.Author.Count.{below_more}
use Rattle.counting.proofs.Search.{found_end, found_hit}
use Rattle.grid.proofs.Again.{repeats_again}
use Rattle.grid.proofs.cells.row_4.Goals as goal

pub returns-then-again : goal.returns-then-again
returns-then-again c = found_hit _ _ _ (omega arith) (repeats_again _ _ c.requires _ (omega arith) ∙ sym c.again.ensures ∙ c.if-again.true) c.loop-c.invariant

pub loop-c-preserved : goal.loop-c-preserved
loop-c-preserved c = below_more _ _ c.loop-c.invariant (repeats_again _ _ c.requires _ (omega arith) ∙ sym c.again.ensures ∙ c.if-again.false)

pub returns : goal.returns
returns c = found_end _ _ (λ i h. c.loop-c.invariant i (omega arith))
