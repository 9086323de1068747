use mathlib.Core.Path.{◌∙◌, refl, sym}
use Rattle.answer.specs.work.Faults.{since}
use Rattle.grid.specs.work.Lent.{rebuilt}
use Rattle.grid.specs.Rows.{rows}
use Rattle.grid.proofs.Answers.{answer_clear, answer_found}
use Rattle.grid.proofs.early_rows.Goals as goal

pub returns-in-Some-row_4 : goal.returns-in-Some-row_4
unfolding since rows
returns-in-Some-row_4 g c = rw c.at.ensures (answer_found (rebuilt c.args.grid) 4 5 refl _ (sym c.in-Some-row_4.is ∙ c.row_4.ensures))

pub returns-in_default : goal.returns-in_default
unfolding since rows
returns-in_default g c = let G = rebuilt c.args.grid in (
  answer_clear G 5 6 refl (sym c.in_default.is ∙ c.row_5.ensures.value) ∙ answer_clear G 4 5 refl (sym c.in_default-row_4.is ∙ c.row_4.ensures),
  c.row_5.ensures.neighbours c.in_default.is,
)

pub returns-in-Some-crowded_row_4 : goal.returns-in-Some-crowded_row_4
unfolding since rows
returns-in-Some-crowded_row_4 g c = rw c.at-in-Some-crowded_row_4.ensures (answer_found (rebuilt c.args.grid) 4 5 refl _ (sym c.in-Some-crowded_row_4.is ∙ c.crowded_row_4.ensures))

pub returns : goal.returns
unfolding since rows
returns g c = let G = rebuilt c.args.grid in
    rw c.at-2.ensures (answer_found G 5 6 refl _ (sym c.in-Some.is ∙ c.row_5.ensures.value) ∙ answer_clear G 4 5 refl (sym c.in_default-crowded_row_4.is ∙ c.crowded_row_4.ensures))
