use mathlib.Core.Path.{◌∙◌, refl, sym}
use native.Mathlib.Omega.{arith}
use Rattle.answer.specs.work.Faults.{since}
use Rattle.grid.specs.Rows.{rows}
use Rattle.grid.proofs.Answers.{answer_clear, answer_found}
use Rattle.grid.proofs.Packed.{ordered_cells}
use Rattle.grid.proofs.cell_rows.Goals as goal

pub returns-in-Some : goal.returns-in-Some
unfolding since rows
returns-in-Some c = record { result_value = rw c.at.ensures (answer_found _ 3 4 refl _ (sym c.in-Some.is ∙ c.row_3.ensures.value)); where_accepted = tt }

pub table_rows-requires : goal.table_rows-requires
table_rows-requires c = let p = c.requires in record { sized = record { few = omega arith; slots_are = refl; labels_are = refl; edges_are = refl }; cells_bound = c.if-grid-le-FEW_CELLS.true; numbering = record { ordered = ordered_cells _ c.row_3.ensures.small p.few (sym c.in_default.is ∙ c.row_3.ensures.value); pairs = p.pairs; blank = p.blank } }

pub returns-then-grid-le-FEW_CELLS : goal.returns-then-grid-le-FEW_CELLS
unfolding since rows
returns-then-grid-le-FEW_CELLS c = record { result_value = c.table_rows.ensures.result_value ∙ answer_clear _ 3 4 refl (sym c.in_default.is ∙ c.row_3.ensures.value); where_accepted = c.table_rows.ensures.where_accepted }

pub table_rows-requires-2 : goal.table_rows-requires-2
table_rows-requires-2 c = let p = c.requires in record { sized = record { few = omega arith; slots_are = refl; labels_are = refl; edges_are = refl }; cells_bound = p.few; numbering = record { ordered = ordered_cells _ c.row_3.ensures.small p.few (sym c.in_default.is ∙ c.row_3.ensures.value); pairs = p.pairs; blank = p.blank } }

pub returns : goal.returns
unfolding since rows
returns c = record { result_value = c.table_rows-2.ensures.result_value ∙ answer_clear _ 3 4 refl (sym c.in_default.is ∙ c.row_3.ensures.value); where_accepted = c.table_rows-2.ensures.where_accepted }
