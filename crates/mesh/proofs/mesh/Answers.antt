use Rattle.std.proofs.lemmas.Result.{err_from_is_err_and}
use mathlib.Core.Path.{refl}
use Rattle.grid.specs.Lent.{lent}
use Rattle.mesh.proofs.Calls.{refused_done, drawn_done}
use Rattle.mesh.proofs.mesh.Goals as goal

pub returns-in_err-lay : goal.returns-in_err-lay
returns-in_err-lay c = let p = err_from_is_err_and c.from_residual.result c.from_residual.ensures.1 in rw (p.1, p.2) (refused_done (lent c.args.grid) _ c.in_err-lay.ensures.result_value c.args.area.now)

pub returns : goal.returns
returns c = drawn_done (lent c.args.grid) _ c.in_ok-lay.ensures.result_value _ _ _ _ refl refl c.lay.ensures.laid _ _ _ c.draw.ensures
