use mathlib.Core.Path.{◌∙◌, ap, refl}
use native.Mathlib.Omega.{arith}
use Rattle.answer.specs.work.Faults.{since}
use Rattle.answer.specs.Refusal.{refusal_numbers}
use Rattle.counting.proofs.Search.{found_none}
use Rattle.flat.specs.Rows.{rows}
use Rattle.flat.proofs.Answers.{answer_clear, answer_found}
use Rattle.flat.proofs.Keys.{rising_triangles}
use Rattle.flat.proofs.rows.triangle_rows.Goals as goal

pub returns-in-Some : goal.returns-in-Some
unfolding since rows
returns-in-Some c = record { result_value = ap refusal_numbers c.at.ensures ∙ answer_found _ 3 4 refl _ c.in-Some.ensures.value; where_accepted = tt }

pub row_4-requires : goal.row_4-requires
row_4-requires c = c.requires.few

pub returns-in-Some-row_4 : goal.returns-in-Some-row_4
unfolding since rows
returns-in-Some-row_4 c = record {
  result_value = ap refusal_numbers c.at-in-Some-row_4.ensures ∙ answer_found _ 4 5 refl _ c.in-Some-row_4.ensures ∙ answer_clear _ 3 4 refl c.in_default.ensures.value;
  where_accepted = tt;
}

pub row_5-requires : goal.row_5-requires
row_5-requires c = rising_triangles _ c.row_3.ensures.small c.requires.few (omega (arith, found_none _ _ c.in_default.ensures.value))

pub returns-in-Some-row_5 : goal.returns-in-Some-row_5
unfolding since rows
returns-in-Some-row_5 c = record {
  result_value = ap refusal_numbers c.at-in-Some-row_5.ensures ∙ answer_found _ 5 6 refl _ c.in-Some-row_5.ensures ∙ answer_clear _ 4 5 refl c.in_default-row_4.ensures
      ∙ answer_clear _ 3 4 refl c.in_default.ensures.value;
  where_accepted = tt;
}

pub edge_rows-requires : goal.edge_rows-requires
edge_rows-requires c = record {
  rising = rising_triangles _ c.row_3.ensures.small c.requires.few (omega (arith, found_none _ _ c.in_default.ensures.value));
  pairs = c.requires.pairs;
  small = c.requires.small;
  blank = c.requires.blank;
}

pub returns : goal.returns
unfolding since rows
returns c = record {
  result_value = c.edge_rows.ensures.result_value ∙ answer_clear _ 5 6 refl c.in_default-row_5.ensures ∙ answer_clear _ 4 5 refl c.in_default-row_4.ensures
      ∙ answer_clear _ 3 4 refl c.in_default.ensures.value;
  where_accepted = c.edge_rows.ensures.where_accepted;
}
