use Prim.Native.Nat.{ℕ}
use mathlib.Core.Path.{◌∙◌, ap, refl, sym}
use native.Mathlib.Omega.{arith}
use lib.ListN.{length, length-replicate}
use Rattle.counting.proofs.Search.{found_none}
use Rattle.counting.proofs.Tables.{filled_table}
use Rattle.counting.proofs.Stored.{length_filled}
use Rattle.answer.specs.work.Faults.{since}
use Rattle.answer.specs.Refusal.{refusal_numbers}
use Rattle.grid.proofs.Answers.{where-accepted}
use Rattle.flat.specs.work.Work.{most_sides}
use Rattle.flat.specs.Rows.{rows}
use Rattle.flat.proofs.Answers.{answer_clear, answer_found, answer_last}
use Rattle.grid.proofs.Blocks.{block_found, block_none}
use Rattle.flat.proofs.Listed.{placed_table, row_8_is, sided, unlisted_first}
use Rattle.flat.proofs.rows.side_rows.Goals as goal

pub returns-in-Some-clause-result_value : goal.returns-in-Some-clause-result_value
unfolding since rows
returns-in-Some-clause-result_value c = let P = c.requires in
    let K = c.side_keys.ensures in
    let w = filled_table _ _ _ _ K (omega (arith, P.rising.few)) in
    let long = simp length_filled at (ap length K) ∙ length-replicate {A = ℕ} most_sides 0 in
    let v = placed_table _ P P.small _ w long c.edge_places-stray.ensures.places_after in
    let r = unlisted_first _ P.rising P.small _ w _ v in
    ap refusal_numbers c.at.ensures ∙ answer_found _ 7 8 refl _ (block_found _ _ 3 _ (omega arith) r _ c.in-Some.ensures.result_value)

pub returns-in-Some-stray-clause-result_value : goal.returns-in-Some-stray-clause-result_value
unfolding since rows
returns-in-Some-stray-clause-result_value c = let P = c.requires in
    let K = c.side_keys.ensures in
    let w = filled_table _ _ _ _ K (omega (arith, P.rising.few)) in
    let long = simp length_filled at (ap length K) ∙ length-replicate {A = ℕ} most_sides 0 in
    let v = placed_table _ P P.small _ w long c.edge_places-stray.ensures.places_after in
    let r = unlisted_first _ P.rising P.small _ w _ v in
    ap refusal_numbers c.at-in-Some-stray.ensures ∙ answer_found _ 8 10 refl _ (row_8_is _ P P.small _ w long c.in-Some-stray.ensures.value)
    ∙ answer_clear _ 7 8 refl (block_none _ _ 3 _ (omega arith) r c.in_default.ensures.result_value)

pub returns : goal.returns
unfolding since rows
returns c = let P = c.requires in
    let K = c.side_keys.ensures in
    let w = filled_table _ _ _ _ K (omega (arith, P.rising.few)) in
    let long = simp length_filled at (ap length K) ∙ length-replicate {A = ℕ} most_sides 0 in
    let v = placed_table _ P P.small _ w long c.edge_places-stray.ensures.places_after in
    let r = unlisted_first _ P.rising P.small _ w _ v in
    let d = c.in_default.ensures in
    record {
      result_value = c.count_crossings.ensures ∙ answer_last _ ∙ answer_clear _ 8 10 refl (row_8_is _ P P.small _ w long c.in_default-stray.ensures.value)
          ∙ answer_clear _ 7 8 refl (block_none _ _ 3 _ (omega arith) r d.result_value);
      where_accepted = where-accepted c.count_crossings.result (sided _ P.rising P.small _ w _ v _ (sym (found_none _ _ d.result_value)) (omega arith) d.sides_after);
    }
