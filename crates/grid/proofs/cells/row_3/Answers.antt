use mathlib.Core.Path.{◌∙◌, sym}
use native.Mathlib.Omega.{arith}
use Rattle.counting.proofs.Search.{found_end, found_hit}
use Rattle.grid.proofs.cells.row_3.Goals as goal

pub returns-then-bad_cell : goal.returns-then-bad_cell
returns-then-bad_cell c = record { value = found_hit _ _ _ (omega arith) (sym c.bad_cell.ensures ∙ c.if-bad_cell.true) c.loop-c.invariant; small = λ i. omega (arith, c.type_inv.cells i) }

pub returns : goal.returns
returns c = record { value = found_end _ _ (λ i h. c.loop-c.invariant i (omega arith)); small = λ i. omega (arith, c.type_inv.cells i) }
