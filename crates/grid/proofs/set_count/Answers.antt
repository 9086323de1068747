use Rattle.std.proofs.lemmas.Result.{err_from_is_err_and}
use Rattle.grid.specs.Grid.{grid_of}
use Rattle.grid.proofs.Settings.{set_changeable, set_done, set_refused}
use Rattle.grid.proofs.set_count.Goals as goal

pub change-requires : goal.change-requires
change-requires c = let a = c.args in
    set_changeable (grid_of a.cells.now a.edges.now a.counts.now a.starts.now) c.check.result c.check.ensures _ c.in_ok-n.was

pub returns-in_err-n : goal.returns-in_err-n
returns-in_err-n c = let a = c.args in
    let p = err_from_is_err_and c.from_residual.result c.from_residual.ensures.1 in
    let w = set_refused (grid_of a.cells.now a.edges.now a.counts.now a.starts.now) a.edge a.count c.check.result c.check.ensures _ c.in_err-n.was in
    record { result_value = rw (p.1, p.2) w.0; counts_after = w.1; starts_after = w.2 }

pub returns : goal.returns
returns c = let a = c.args in
    let w = set_done (grid_of a.cells.now a.edges.now a.counts.now a.starts.now) a.edge a.count c.check.result c.check.ensures _ c.in_ok-n.was _ _ _ c.change.ensures in
    record { result_value = w.0; counts_after = w.1; starts_after = w.2 }
