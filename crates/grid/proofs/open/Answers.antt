use mathlib.Core.Path.{◌∙◌, ap, sym}
use Rattle.std.proofs.lemmas.Result.{err_from_is_err_and}
use Rattle.grid.specs.Check.{check_numbers}
use Rattle.grid.specs.Grid.{grid_of}
use Rattle.grid.proofs.Openings.{open_done, open_refused, open_starting, open_verdict}
use Rattle.grid.proofs.Starts.{numbers_fine}
use Rattle.grid.proofs.open.Goals as goal

pub judge-requires : goal.judge-requires
judge-requires c = λ e. (numbers_fine _ _ _ (sym c.bad_numbers-wrong.ensures ∙ e)).0

pub returns-in_err-crossings : goal.returns-in_err-crossings
returns-in_err-crossings c = let a = c.args in
    let G = grid_of a.cells.now a.edges.now a.counts.now a.starts.now in
    let p = err_from_is_err_and c.from_residual.result c.from_residual.ensures.1 in
    let h = c.judge.ensures ∙ open_verdict G _ c.bad_numbers-wrong.ensures in
    record { result_value = rw (p.1, p.2) (ap check_numbers (sym c.in_err-crossings.was) ∙ h); starts_after = open_refused G c.judge.result h _ c.in_err-crossings.was }

pub write_starts-requires : goal.write_starts-requires
write_starts-requires c = let a = c.args in
    let G = grid_of a.cells.now a.edges.now a.counts.now a.starts.now in
    open_starting G c.judge.result (c.judge.ensures ∙ open_verdict G _ c.bad_numbers-wrong.ensures) _ c.in_ok-crossings.was

pub returns : goal.returns
returns c = let a = c.args in
    let G = grid_of a.cells.now a.edges.now a.counts.now a.starts.now in
    let h = c.judge.ensures ∙ open_verdict G _ c.bad_numbers-wrong.ensures in
    record {
      result_value = ap check_numbers (sym c.in_ok-crossings.was) ∙ h;
      starts_after = open_done G c.judge.result h _ c.in_ok-crossings.was _ c.write_starts.ensures;
    }
