use Prim.Native.Nat.{◌-◌}
use mathlib.Core.Path.{◌≡◌, ap, ◌∙◌}
use native.Mathlib.Omega.{arith}
use Rattle.cell.specs.work.Fits.{next_after, area_after}
use Rattle.cell.specs.work.Tables.{cell_in}
use Rattle.cell.proofs.Fits.{put_none}
use Rattle.direct.proofs.Cells.{came_on, put_block}
use Rattle.direct.proofs.drawing.write_cells.Goals as goal

pub loop-k-init : goal.loop-k-init
loop-k-init c = ((omega arith, omega arith), omega arith, put_none _ _ _ _)

pub shape_of-area-then-end-p : goal.shape_of-area-then-end-p
shape_of-area-then-end-p c = let A = c.args in
    let L = c.loop-k in
    (came_on (cell_in A.tables) A.c A.area.now A.at L.invariant.0.0 L.invariant.2 c.put_plain-p.ensures).long

pub returns-then-end-p : goal.returns-then-end-p
returns-then-end-p c = let A = c.args in
    let L = c.loop-k in
    let C = c.put_plain-p.ensures in
    let t = cell_in A.tables in
    let P = came_on t A.c A.area.now A.at L.invariant.0.0 L.invariant.2 C in
    let e : c.put_plain-p.result.cell - A.c ≡ A.end - A.c = omega (arith, L.invariant.0, C.from, C.upto) in
    (P.next ∙ ap (next_after t A.c A.area.now A.at) e, P.area ∙ ap (area_after t A.c A.area.now A.at) e)

pub overflow_sub-p : goal.overflow_sub-p
overflow_sub-p c = omega (arith, c.put_plain-p.ensures.from)

pub next_block-b-requires : goal.next_block-b-requires
next_block-b-requires c = c.loop-k.invariant.1

pub block_end-e-requires : goal.block_end-e-requires
block_end-e-requires c = (c.next_block-b.ensures.0, omega (arith, c.if-end-p.false))

pub put_block-i-requires : goal.put_block-i-requires
put_block-i-requires c = omega (arith, c.block_end-e.ensures.0)

pub loop-k-smaller : goal.loop-k-smaller
loop-k-smaller c = omega (arith, c.block_end-e.ensures, c.put_plain-p.ensures.from)

pub loop-k-preserved : goal.loop-k-preserved
loop-k-preserved c = let A = c.args in
    let L = c.loop-k in
    let C = c.put_plain-p.ensures in
    let E = c.block_end-e.ensures in
    let w = c.put_block-i.ensures in
    let t = cell_in A.tables in
    let P = came_on t A.c A.area.now A.at L.invariant.0.0 L.invariant.2 C in
    ((omega (arith, L.invariant.0, C.from, E), omega (arith, E)), c.next_block-b.ensures.1, put_block t A.c A.area.now A.at (omega (arith, L.invariant.0, C.from)) (omega (arith, E)) P w.0 w.1)

pub shape_of-area : goal.shape_of-area
shape_of-area c = c.loop-k.invariant.2.long

pub returns : goal.returns
returns c = let A = c.args in
    let I = c.loop-k.invariant in
    let t = cell_in A.tables in
    (I.2.next ∙ ap (next_after t A.c A.area.now A.at) (omega (arith, I.0)), I.2.area ∙ ap (area_after t A.c A.area.now A.at) (omega (arith, I.0)))
