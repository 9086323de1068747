use Prim.Native.Nat.{◌<◌}
use mathlib.Core.Path.{refl, sym, ◌∙◌}
use native.Mathlib.Omega.{arith}
use Rattle.cell.specs.claims.Middles.{middles_at}
use Rattle.split.proofs.Spotted.{drawn_spun, fans_fit, fans_done, fans_short, fans_whole}
use Rattle.split.proofs.spots.put_middles.Goals as goal

pub returns-then-splits-eq0 : goal.returns-then-splits-eq0
returns-then-splits-eq0 c = let A = c.args in
    let W = c.write_fans.ensures in
    fans_whole c.requires A.nodes.now A.area.now A.i c.if-splits-eq0.true W.0 W.1

pub centres_in-requires : goal.centres_in-requires
centres_in-requires c = let A = c.args in
    let D = c.requires in
    let h : 0 < A.splits = omega (arith, c.if-splits-eq0.false) in
    let t = sym c.fits.ensures ∙ c.if-fits.true in
    let e = c.corners_of-at.ensures in
    rw c.of.ensures (record { spun = drawn_spun D h; c_in_bounds = rw e (fans_fit D A.nodes.now A.area.now A.i h c.spots_of-p.ensures (middles_at A.nodes.now A.c A.area.now A.i) refl t) })

pub returns-then-fits : goal.returns-then-fits
returns-then-fits c = let A = c.args in
    let D = c.requires in
    let h : 0 < A.splits = omega (arith, c.if-splits-eq0.false) in
    let t = sym c.fits.ensures ∙ c.if-fits.true in
    let e = c.corners_of-at.ensures in
    fans_done D A.nodes.now A.area.now A.i h c.spots_of-p.ensures (middles_at A.nodes.now A.c A.area.now A.i) refl t (rw (c.of.ensures, e) at c.centres_in.ensures)

pub returns : goal.returns
returns c = let A = c.args in
    let h : 0 < A.splits = omega (arith, c.if-splits-eq0.false) in
    fans_short c.requires A.nodes.now A.area.now A.i h c.spots_of-p.ensures (middles_at A.nodes.now A.c A.area.now A.i) refl (sym c.fits.ensures ∙ c.if-fits.false)
