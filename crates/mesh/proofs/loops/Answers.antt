use Rattle.std.proofs.lemmas.Result.{err_from_is_err_and}
use mathlib.Core.Path.{refl, ◌∙◌}
use Rattle.grid.specs.Lent.{lent}
use Rattle.mesh.proofs.Calls.{refused_loops, told_loops}
use Rattle.mesh.proofs.loops.Goals as goal

pub returns-in_err-lay : goal.returns-in_err-lay
returns-in_err-lay c = let p = err_from_is_err_and c.from_residual.result c.from_residual.ensures.1 in rw (p.1, p.2) (refused_loops (lent c.args.grid) _ c.in_err-lay.ensures.result_value _ _)

pub returns : goal.returns
returns c = c.loop_of.ensures ∙ told_loops (lent c.args.grid) _ c.in_ok-lay.ensures.result_value _ _ _ _ refl refl c.lay.ensures.laid _ _
