use mathlib.Core.Path.{◌∙◌, sym}
use Rattle.grid.proofs.Answers.{length_fine, with_1, with_2, with_3}
use Rattle.grid.proofs.all_rows.Goals as goal

pub returns-then-row_1 : goal.returns-then-row_1
returns-then-row_1 c = record { result_value = rw c.at.ensures (with_1 _ _ (sym c.row_1.ensures ∙ c.if-row_1.true)); where_accepted = tt }

pub returns-then-wrong : goal.returns-then-wrong
returns-then-wrong c = record { result_value = rw c.at-then-wrong.ensures (with_2 _ _ (sym c.row_1.ensures ∙ c.if-row_1.false) c.if-wrong.true); where_accepted = tt }

pub cell_rows-requires : goal.cell_rows-requires
cell_rows-requires c = let few = (length_fine _ (sym c.row_1.ensures ∙ c.if-row_1.false)).2 in
    record { few = few; pairs = c.requires.edges_len c.if-wrong.false; blank = c.requires.blank few }

pub returns : goal.returns
returns c = record { result_value = c.cell_rows.ensures.result_value ∙ with_3 _ _ (sym c.row_1.ensures ∙ c.if-row_1.false) c.if-wrong.false; where_accepted = c.cell_rows.ensures.where_accepted }
