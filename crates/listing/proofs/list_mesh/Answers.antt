use Rattle.std.proofs.lemmas.Result.{err_from_is_err_and}
use mathlib.Core.Path.{refl}
use native.Mathlib.Omega.{arith}
use Rattle.counting.proofs.Stored.{stored_as, stored_then}
use Rattle.grid.specs.Lent.{lent}
use Rattle.listing.proofs.Meshes.{mesh_refused, few_triangles, listed}
use Rattle.listing.proofs.list_mesh.Goals as goal

pub returns-in_err-n : goal.returns-in_err-n
returns-in_err-n c = let p = err_from_is_err_and c.from_residual.result c.from_residual.ensures.1 in rw (p.1, p.2) (mesh_refused (lent c.args.grid) _ c.in_err-n.ensures.answered, refl)

pub put_lines-requires : goal.put_lines-requires
put_lines-requires c = let few = few_triangles (lent c.args.grid) _ c.requires.0 _ _ _ _ refl c.in_ok-n.ensures.answered c.in_ok-n.ensures.area in
    (omega (arith, few), omega (arith, few))

pub returns : goal.returns
returns c = let M = c.in_ok-n.ensures in
    let few = few_triangles (lent c.args.grid) _ c.requires.0 _ _ _ _ refl M.answered M.area in
    (stored_as (stored_then c.put_head-at.ensures.stored c.put_lines.ensures.stored) (listed (lent c.args.grid) _ c.requires.0 _ _ _ _ refl M.answered M.area) refl, omega (arith, few))
