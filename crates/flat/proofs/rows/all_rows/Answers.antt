use mathlib.Core.Path.{◌∙◌, ap, refl, sym}
use native.Mathlib.Omega.{arith}
use Rattle.answer.specs.Refusal.{refusal_numbers}
use Rattle.answer.proofs.Rows.{whole_fault, whole_fine}
use Rattle.answer.specs.work.Faults.{since}
use Rattle.flat.specs.Rows.{rows}
use Rattle.flat.proofs.Accepts.{length_fine}
use Rattle.flat.proofs.Answers.{answer_passes, answer_refuses, answer_start}
use Rattle.flat.proofs.rows.all_rows.Goals as goal

pub returns-then-row_1 : goal.returns-then-row_1
unfolding since rows
returns-then-row_1 c = record {
  result_value = ap refusal_numbers c.at.ensures ∙ answer_refuses _ 1 2 refl 0 (whole_fault _ (sym c.row_1.ensures ∙ c.if-row_1.true)) (omega arith) ∙ answer_start _;
  where_accepted = tt;
}

pub returns-then-row_2 : goal.returns-then-row_2
unfolding since rows
returns-then-row_2 c = record {
  result_value = ap refusal_numbers c.at-then-row_2.ensures ∙ answer_refuses _ 2 3 refl 0 (whole_fault _ (sym c.row_2.ensures.value ∙ c.if-row_2.true)) (omega arith)
      ∙ answer_passes _ 1 2 refl 1 (whole_fine _ (sym c.row_1.ensures ∙ c.if-row_1.false)) (omega arith) ∙ answer_start _;
  where_accepted = tt;
}

pub triangle_rows-requires : goal.triangle_rows-requires
triangle_rows-requires c = record {
  few = (length_fine _ (sym c.row_1.ensures ∙ c.if-row_1.false)).2;
  pairs = sym c.row_2.ensures.value ∙ c.if-row_2.false;
  small = c.row_2.ensures.small;
  blank = c.requires;
}

pub returns : goal.returns
unfolding since rows
returns c = record {
  result_value = c.triangle_rows.ensures.result_value ∙ answer_passes _ 2 3 refl 1 (whole_fine _ (sym c.row_2.ensures.value ∙ c.if-row_2.false)) (omega arith)
      ∙ answer_passes _ 1 2 refl 1 (whole_fine _ (sym c.row_1.ensures ∙ c.if-row_1.false)) (omega arith) ∙ answer_start _;
  where_accepted = c.triangle_rows.ensures.where_accepted;
}
