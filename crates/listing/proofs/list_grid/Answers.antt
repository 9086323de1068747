use Rattle.std.proofs.lemmas.Result.{err_from_is_err_and}
use mathlib.Core.Path.{refl, ◌∙◌, subst}
use Rattle.grid.specs.Grid.{built}
use Rattle.listing.specs.work.Listing.{Told}
use Rattle.listing.proofs.Meshes.{check_refused, opened_answer, opened_accepted, opened_listing}
use Rattle.listing.proofs.list_grid.Goals as goal

pub list_mesh-requires : goal.list_mesh-requires
list_mesh-requires c = let a = c.args in
    (opened_accepted a.nodes.now a.ends.now a.counts.now a.starts.now c.requires.0 _ _ c.in_ok-crossings.ensures.result_value c.in_ok-crossings.ensures.starts_after, c.requires.1)

pub returns-in_err-crossings : goal.returns-in_err-crossings
returns-in_err-crossings c = let a = c.args in
    let p = err_from_is_err_and c.from_residual.result c.from_residual.ensures.1 in
    record {
      told = rw (p.1, p.2) (check_refused (built a.nodes.now a.ends.now a.counts.now) _ (c.in_err-crossings.ensures.result_value ∙ opened_answer a.nodes.now a.ends.now a.counts.now a.starts.now c.requires.0), refl);
      starts = c.in_err-crossings.ensures.starts_after;
    }

pub returns : goal.returns
returns c = let a = c.args in
    let O = c.in_ok-crossings.ensures in
    record {
      told = subst (λ t. Told t a.out.now c.list_mesh.new.out c.list_mesh.result)
          (opened_listing a.nodes.now a.ends.now a.counts.now a.starts.now c.requires.0 _ _ O.result_value O.starts_after) c.list_mesh.ensures;
      starts = O.starts_after;
    }
