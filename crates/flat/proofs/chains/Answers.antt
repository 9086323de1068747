use mathlib.Core.Path.{refl}
use Rattle.std.proofs.lemmas.Result.{err_from_is_err_and}
use Rattle.flat.specs.Lent.{lent}
use Rattle.flat.proofs.Calls.{refused_done, told_accepted, told_number, told_sides, traced_done}
use Rattle.flat.proofs.chains.Goals as goal

pub all_rows-requires : goal.all_rows-requires
all_rows-requires c = refl

pub returns-in_err-n : goal.returns-in_err-n
returns-in_err-n c =
    let p = err_from_is_err_and c.from_residual.result c.from_residual.ensures.1 in
    rw (p.1, p.2) (refused_done (lent c.args.grid) c.all_rows.result _ c.in_err-n.was c.all_rows.ensures.result_value _)

pub trace-requires : goal.trace-requires
trace-requires c =
    let r = c.all_rows in
    let w = c.in_ok-n.was in
    let q = r.ensures.result_value in
    record {
      accepted = told_accepted (lent c.args.grid) r.result _ w q;
      sides_known = told_sides (lent c.args.grid) r.result _ w q _ r.ensures.where_accepted;
      n_value = told_number (lent c.args.grid) r.result _ w q;
    }

pub returns : goal.returns
returns c = traced_done (lent c.args.grid) c.all_rows.result _ c.in_ok-n.was c.all_rows.ensures.result_value c.trace.ensures
