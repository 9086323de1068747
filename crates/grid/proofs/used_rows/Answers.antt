use native.Mathlib.Omega.{arith}
use mathlib.Core.Path.{◌∙◌, refl, sym}
use Rattle.answer.specs.work.Faults.{since}
use Rattle.grid.specs.Rows.{rows}
use Rattle.grid.proofs.Answers.{answer_clear, answer_found, where-accepted}
use Rattle.grid.proofs.Working.{using_linkable, using_table}
use Rattle.grid.proofs.used_rows.Goals as goal

pub returns-in-Some : goal.returns-in-Some
unfolding since rows
returns-in-Some g c = record { result_value = rw c.at.ensures (answer_found _ 8 9 refl _ (sym c.in-Some.is ∙ c.row_8.ensures.value)); where_accepted = tt }

pub last_rows-requires : goal.last_rows-requires
last_rows-requires g c = (omega (arith, c.well_formed), using_linkable c.requires (sym c.in_default.is ∙ c.row_8.ensures.value) (c.row_8.ensures.few c.in_default.is))

pub returns : goal.returns
unfolding since rows
returns g c = record { result_value = c.last_rows.ensures ∙ answer_clear _ 8 9 refl (sym c.in_default.is ∙ c.row_8.ensures.value); where_accepted = where-accepted c.last_rows.result (using_table c.requires (c.row_8.ensures.few c.in_default.is)) }
