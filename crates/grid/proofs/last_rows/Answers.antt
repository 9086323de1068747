use mathlib.Core.Path.{◌∙◌, refl, sym}
use Rattle.answer.specs.work.Faults.{since}
use Rattle.grid.specs.Rows.{rows}
use Rattle.grid.proofs.Answers.{answer_clear, answer_found, answer_last}
use Rattle.grid.proofs.last_rows.Goals as goal

pub returns-in-Some : goal.returns-in-Some
unfolding since rows
returns-in-Some g c = rw c.at.ensures (answer_found _ 9 10 refl _ (sym c.in-Some.is ∙ c.row_9.ensures))

pub returns : goal.returns
unfolding since rows
returns g c = c.count_crossings.ensures ∙ answer_last _ ∙ answer_clear _ 9 10 refl (sym c.in_default.is ∙ c.row_9.ensures)
