use mathlib.Core.Path.{◌∙◌, ap, sym}
use native.Mathlib.Omega.{arith}
use Rattle.std.proofs.lemmas.Result.{err_from_is_err_and}
use Rattle.grid.specs.Check.{check_numbers}
use Rattle.grid.specs.Lent.{lent}
use Rattle.grid.proofs.Answers.{verdict}
use Rattle.grid.proofs.Filled.{laid_filled, laid_kept, lowering, refused_keeps}
use Rattle.grid.proofs.Starts.{lists_fine}
use Rattle.grid.proofs.Working.{blank_tables}
use Rattle.grid.proofs.lay.Goals as goal

pub all_rows-requires : goal.all_rows-requires
all_rows-requires c = record { edges_len = λ e. (lists_fine _ _ _ (sym c.row_2-wrong.ensures ∙ e)).0; blank = λ h. blank_tables _ 8192 12288 (omega arith) (omega arith) }

pub returns-in_err-crossings : goal.returns-in_err-crossings
returns-in_err-crossings c = let G = lent c.args.grid in
    let p = err_from_is_err_and c.from_residual.result c.from_residual.ensures.1 in
    let h = ap check_numbers (sym c.in_err-crossings.was) ∙ c.all_rows.ensures.result_value ∙ verdict G _ c.row_2-wrong.ensures in
    record { result_value = rw (p.1, p.2) h; laid = laid_kept G (refused_keeps G _ h) _ _ }

pub write_sides-requires : goal.write_sides-requires
write_sides-requires c = let G = lent c.args.grid in
    let t = c.all_rows in
    lowering G t.result _ c.in_ok-crossings.was (t.ensures.result_value ∙ verdict G _ c.row_2-wrong.ensures) t.new.near t.new.sides t.ensures.where_accepted _ (omega (arith, c.well_formed))

pub returns : goal.returns
returns c = let G = lent c.args.grid in
    let t = c.all_rows in
    let h = t.ensures.result_value ∙ verdict G _ c.row_2-wrong.ensures in
    record {
      result_value = ap check_numbers (sym c.in_ok-crossings.was) ∙ h;
      laid = laid_filled G t.result _ c.in_ok-crossings.was h t.new.near t.new.sides t.ensures.where_accepted _ _ _ _ c.write_names.ensures c.write_sides.ensures;
    }
