use mathlib.Core.Path.{◌∙◌, sym}
use native.Mathlib.Omega.{arith}
use Rattle.grid.proofs.Blocks.{block_found, block_none}
use Rattle.grid.proofs.Faces.{mates_near, third_first}
use Rattle.grid.proofs.cells.row_5.Goals as goal

pub returns-in_err-third : goal.returns-in_err-third
returns-in_err-third c = let p = c.requires in
    record {
      value = rw c.from_residual.ensures (block_none _ _ 4 _ (omega arith) (third_first _ p.rising_cells _ p.slots) (sym c.in_err-third.was ∙ c.pair.ensures.value));
      neighbours = λ e. mates_near _ p.rising_cells _ p.slots _ (omega (arith, c.pair.auto.near, p.fresh_2.room)) (rw c.in_err-third.was at c.pair.ensures.mates);
    }

pub returns : goal.returns
returns c = let p = c.requires in
    record {
      value = block_found _ _ 4 _ (omega arith) (third_first _ p.rising_cells _ p.slots) _ (sym c.in_ok-third.was ∙ c.pair.ensures.value);
      neighbours = λ e. absurd cc;
    }
