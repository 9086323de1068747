use Rattle.std.proofs.lemmas.Result.{err_from_is_err_and}
use mathlib.Core.Path.{refl}
use Rattle.grid.specs.Lent.{lent}
use Rattle.layers.proofs.Calls.{refused_joined, tables}
use Rattle.layers.proofs.mesh_joined.Goals as goal

pub cut_joined-requires : goal.cut_joined-requires
cut_joined-requires c = tables (lent c.args.grid) _ c.in_ok-lay.ensures.result_value _ _ _ _ refl refl c.lay.ensures.laid

pub returns-in_err-lay : goal.returns-in_err-lay
returns-in_err-lay c = let A = c.args in let p = err_from_is_err_and c.from_residual.result c.from_residual.ensures.1 in rw (p.1, p.2) (refused_joined (lent A.grid) _ c.in_err-lay.ensures.result_value A.cuts.now A.area.now)
