use Rattle.std.proofs.lemmas.Result.{err_from_is_err_and}
use Rattle.grid.specs.Lent.{lent}
use Rattle.grid.proofs.Filled.{sound_built}
use Rattle.shading.proofs.Calls.{refused_done, shaded_done}
use Rattle.shading.proofs.shade.Goals as goal

pub returns-in_err-check : goal.returns-in_err-check
returns-in_err-check c =
    let p = err_from_is_err_and c.from_residual.result c.from_residual.ensures.1 in
    rw (p.1, p.2) (refused_done (lent c.args.grid) c.args.area.now c.check.result c.check.ensures _ c.in_err-check.was)

pub shade_accepted-requires : goal.shade_accepted-requires
shade_accepted-requires c = sound_built (lent c.args.grid) c.check.result _ c.in_ok-check.was c.check.ensures

pub returns : goal.returns
returns c = shaded_done (lent c.args.grid) c.args.area.now c.check.result c.check.ensures _ c.in_ok-check.was _ _ c.shade_accepted.ensures
