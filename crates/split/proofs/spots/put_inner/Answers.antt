use Prim.Native.Nat.{◌<◌}
use mathlib.Core.Path.{sym, ◌∙◌}
use native.Mathlib.Omega.{arith}
use Rattle.split.proofs.OneCell.{drawn_left}
use Rattle.split.proofs.Spotted.{inner_none, inner_room, inner_done, inner_short}
use Rattle.split.proofs.spots.put_inner.Goals as goal

pub returns-then-splits-eq0 : goal.returns-then-splits-eq0
returns-then-splits-eq0 c = let A = c.args in inner_none c.requires A.nodes.now A.area.now A.i c.if-splits-eq0.true

pub inner_in-requires : goal.inner_in-requires
inner_in-requires c = let A = c.args in
    let D = c.requires in
    let h : 0 < A.splits = omega (arith, c.if-splits-eq0.false) in
    let t = sym c.fits.ensures ∙ c.if-fits.true in
    let e = c.corners_of-at.ensures in
    rw c.of.ensures (record { splits_left = drawn_left D h; c_in_bounds = rw e (inner_room D A.nodes.now A.area.now A.i h c.spots_of.ensures t) })

pub returns-then-fits : goal.returns-then-fits
returns-then-fits c = let A = c.args in
    let D = c.requires in
    let h : 0 < A.splits = omega (arith, c.if-splits-eq0.false) in
    let t = sym c.fits.ensures ∙ c.if-fits.true in
    let e = c.corners_of-at.ensures in
    inner_done D A.nodes.now A.area.now A.i h c.spots_of.ensures t (rw (c.of.ensures, e) at c.inner_in.ensures)

pub returns : goal.returns
returns c = let A = c.args in
    let h : 0 < A.splits = omega (arith, c.if-splits-eq0.false) in
    inner_short c.requires A.nodes.now A.area.now A.i h c.spots_of.ensures (sym c.fits.ensures ∙ c.if-fits.false)
