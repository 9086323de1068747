use mathlib.Core.Path.{sym, ap, ◌∙◌, subst}
use lib.ListN.{length}
use Rattle.cell.specs.work.Route.{Near}
use Rattle.cell.specs.Triangles.{cell_triangles}
use Rattle.cell.proofs.Taken.{with_all}
use Rattle.cell.proofs.Using.{limited_near}
use borrow.Author.Rules.{rules}
use Rattle.cell.proofs.triangles.triangle_count.Goals as goal

pub count_in-requires : goal.count_in-requires
count_in-requires c = record { near = subst Near (sym c.within-v.ensures) (limited_near _); all = search rules; few = search rules; long = search rules }

pub returns : goal.returns
returns c = let N = c.count_in.ensures.value in
    (N.0 ∙ ap length (with_all _) ∙ ap (λ v. length (cell_triangles v)) c.within-v.ensures, N.1)
