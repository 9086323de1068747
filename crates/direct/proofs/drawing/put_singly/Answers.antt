use mathlib.Core.Path.{ap, ◌∙◌}
use native.Mathlib.Omega.{arith}
use Rattle.counting.specs.Stored.{stored_in}
use Rattle.counting.specs.claims.Lists.{next_in}
use Rattle.cell.specs.work.Fits.{next_after, area_after}
use Rattle.cell.specs.work.Tables.{cell_in}
use Rattle.cell.specs.Triangles.{triangles_with}
use Rattle.cell.specs.Words.{all_words}
use Rattle.cell.proofs.Fits.{next_all, area_all, put_none, put_more}
use Rattle.direct.proofs.Cells.{limited_as}
use Rattle.direct.proofs.drawing.put_singly.Goals as goal

pub loop-k-init : goal.loop-k-init
loop-k-init c = (omega arith, put_none _ _ _ _)

pub loop-k-preserved : goal.loop-k-preserved
loop-k-preserved c = let A = c.args in
    let L = c.loop-k in
    let v = c.cell_at-v.ensures in
    let w = c.write_loops-i.ensures in
    let e = limited_as A.tables.cells.now A.tables.counts.now A.tables.names.now A.tables.sides.now A.tables.starts.now L.k v in (
      omega (arith, L.invariant.0),
      put_more _ _ _ _ (omega arith) L.invariant.1 v
          (w.0 ∙ ap (λ u. next_in L.area L.i (all_words (triangles_with u 0))) e ∙ next_all _ _ _)
          (w.1 ∙ ap (λ u. stored_in L.area L.i (all_words (triangles_with u 0))) e ∙ area_all _ _ _),
    )

pub shape_of-area : goal.shape_of-area
shape_of-area c = c.loop-k.invariant.1.long

pub returns : goal.returns
returns c = let A = c.args in
    let I = c.loop-k.invariant in
    let t = cell_in A.tables in
    (I.1.next ∙ ap (next_after t A.c A.area.now A.at) (omega (arith, I.0)), I.1.area ∙ ap (area_after t A.c A.area.now A.at) (omega (arith, I.0)))
