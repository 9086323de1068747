use Rattle.std.proofs.lemmas.Result.{err_from_is_err_and}
use mathlib.Core.Path.{refl}
use Rattle.grid.specs.Lent.{lent}
use Rattle.places.proofs.Calls.{refused_done, laid_ready, placed_done}
use Rattle.places.proofs.places.Goals as goal

pub place_all-requires : goal.place_all-requires
place_all-requires c = let a = c.args in
    laid_ready (lent a.grid) a.nodes.now a.fractions.now _ c.in_ok-n.ensures.result_value _ _ _ _ refl refl c.lay.ensures.laid

pub returns-in_err-n : goal.returns-in_err-n
returns-in_err-n c = let a = c.args in let p = err_from_is_err_and c.from_residual.result c.from_residual.ensures.1 in rw (p.1, p.2) (refused_done (lent a.grid) a.nodes.now a.fractions.now _ a.area.now c.in_err-n.ensures.result_value)

pub returns : goal.returns
returns c = let a = c.args in
    placed_done (lent a.grid) a.nodes.now a.fractions.now _ c.in_ok-n.ensures.result_value _ _ _ _ refl refl c.lay.ensures.laid _ _ _ c.place_all.ensures
