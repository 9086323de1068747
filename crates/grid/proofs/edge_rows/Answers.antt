use native.Mathlib.Omega.{arith}
use mathlib.Core.Path.{◌∙◌, refl, sym}
use Rattle.answer.specs.work.Faults.{since}
use Rattle.grid.specs.Rows.{rows}
use Rattle.grid.proofs.Answers.{answer_clear, answer_found}
use Rattle.grid.proofs.Working.{edging_siding}
use Rattle.grid.proofs.edge_rows.Goals as goal

pub returns-in-Some : goal.returns-in-Some
unfolding since rows
returns-in-Some g c = record { result_value = rw c.at.ensures (answer_found _ 6 18 refl _ (sym c.in-Some.is ∙ c.row_6.ensures)); where_accepted = tt }

pub returns-in-Some-row_18 : goal.returns-in-Some-row_18
unfolding since rows
returns-in-Some-row_18 g c = record { result_value = rw c.at-in-Some-row_18.ensures (answer_found _ 18 7 refl _ (sym c.in-Some-row_18.is ∙ c.row_18.ensures) ∙ answer_clear _ 6 18 refl (sym c.in_default.is ∙ c.row_6.ensures)); where_accepted = tt }

pub side_rows-requires : goal.side_rows-requires
side_rows-requires g c = (omega (arith, c.well_formed), (omega (arith, c.well_formed), edging_siding c.requires (sym c.in_default.is ∙ c.row_6.ensures)))

pub returns : goal.returns
unfolding since rows
returns g c = record { result_value = c.side_rows.ensures.result_value ∙ answer_clear _ 18 7 refl (sym c.in_default-row_18.is ∙ c.row_18.ensures) ∙ answer_clear _ 6 18 refl (sym c.in_default.is ∙ c.row_6.ensures); where_accepted = c.side_rows.ensures.where_accepted }
