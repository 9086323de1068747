use mathlib.Core.Path.{◌∙◌, ap, refl}
use Rattle.answer.specs.work.Faults.{since}
use Rattle.answer.specs.Refusal.{refusal_numbers}
use Rattle.flat.specs.Rows.{rows}
use Rattle.flat.proofs.Answers.{answer_clear, answer_found, order_is}
use Rattle.flat.proofs.rows.edge_rows.Goals as goal

pub returns-in-Some : goal.returns-in-Some
unfolding since rows
returns-in-Some c = record {
  result_value = ap refusal_numbers c.at.ensures ∙ answer_found _ 6 18 refl _ (c.in-Some.ensures ∙ order_is _ _ c.requires.pairs);
  where_accepted = tt;
}

pub returns-in-Some-row_18 : goal.returns-in-Some-row_18
unfolding since rows
returns-in-Some-row_18 c = record {
  result_value = ap refusal_numbers c.at-in-Some-row_18.ensures ∙ answer_found _ 18 7 refl _ c.in-Some-row_18.ensures
      ∙ answer_clear _ 6 18 refl (c.in_default.ensures ∙ order_is _ _ c.requires.pairs);
  where_accepted = tt;
}

pub side_rows-requires : goal.side_rows-requires
side_rows-requires c = c.requires

pub returns : goal.returns
unfolding since rows
returns c = record {
  result_value = c.side_rows.ensures.result_value ∙ answer_clear _ 18 7 refl c.in_default-row_18.ensures
      ∙ answer_clear _ 6 18 refl (c.in_default.ensures ∙ order_is _ _ c.requires.pairs);
  where_accepted = c.side_rows.ensures.where_accepted;
}
