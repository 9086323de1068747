use mathlib.Core.Path.{◌≡◌, refl, sym, ◌∙◌}
use native.Mathlib.Omega.{arith}
use Rattle.cell.specs.work.Tables.{cell_in}
use Rattle.cell.proofs.Fits.{put_none, put_more}
use Rattle.direct.proofs.Cells.{no_crossings, nothing_put, table_ready, table_booked, put_came}
use Rattle.direct.proofs.Families.{rising_is}
use Rattle.direct.proofs.drawing.put_plain.Goals as goal

pub loop-k-init : goal.loop-k-init
loop-k-init c = (omega arith, put_none _ _ _ _)

pub loop-k-preserved-then-crossings_in-eq0 : goal.loop-k-preserved-then-crossings_in-eq0
loop-k-preserved-then-crossings_in-eq0 c = let A = c.args in
    let L = c.loop-k in
    let z = no_crossings A.tables.cells.now A.tables.counts.now A.tables.names.now A.tables.sides.now A.tables.starts.now L.k c.counts_at-six.ensures c.crossings_in.ensures.0 c.if-crossings_in-eq0.true in
    let N = nothing_put (cell_in A.tables L.k) z L.area L.i in
    (omega (arith, L.invariant.0), put_more (cell_in A.tables) A.c A.area.now A.at (omega arith) L.invariant.1 refl N.0 N.1)

pub shape_of-area-in_default : goal.shape_of-area-in_default
shape_of-area-in_default c = c.loop-k.invariant.1.long

pub returns-in_default : goal.returns-in_default
returns-in_default c = let I = c.loop-k.invariant in put_came _ _ _ _ (omega arith) I.0 I.1

pub shape_of-area-then-not-is_rising : goal.shape_of-area-then-not-is_rising
shape_of-area-then-not-is_rising c = c.loop-k.invariant.1.long

pub returns-then-not-is_rising : goal.returns-then-not-is_rising
returns-then-not-is_rising c = let I = c.loop-k.invariant in put_came _ _ _ _ (omega arith) I.0 I.1

pub invariant_of-level : goal.invariant_of-level
invariant_of-level c = let T = c.args.tables in
    let R = table_ready T.cells.now T.counts.now T.names.now T.sides.now T.starts.now c.loop-k.k c.counts_at-six.ensures c.in-Some.ensures c.cell_at-v.ensures in
    record { listed = R.listed; level = R.plain.level; own_are = R.own_are }

pub put_fitting-i-requires : goal.put_fitting-i-requires
put_fitting-i-requires c = let T = c.args.tables in
    let L = c.loop-k in
    let e = c.counts_at-six.ensures in
    let N = c.in-Some.ensures in
    let v = c.cell_at-v.ensures in
    let r = sym c.is_rising.ensures ∙ c.if-not-is_rising.false in
    ((table_ready T.cells.now T.counts.now T.names.now T.sides.now T.starts.now L.k e N v).plain.none, rising_is c.cell_at-v.result r, table_booked T.cells.now T.counts.now T.names.now T.sides.now T.starts.now L.k e N v)

pub loop-k-preserved : goal.loop-k-preserved
loop-k-preserved c = let I = c.loop-k.invariant in
    let w = c.put_fitting-i.ensures in
    (omega (arith, I.0), put_more _ _ _ _ (omega arith) I.1 c.cell_at-v.ensures w.0 w.1)

pub shape_of-area : goal.shape_of-area
shape_of-area c = c.loop-k.invariant.1.long

pub returns : goal.returns
returns c = let I = c.loop-k.invariant in
    let e : c.loop-k.k ≡ c.max.result = omega (arith, I.0, c.max.ensures) in
    rw (← e) (put_came _ _ _ _ (omega arith) I.0 I.1)
