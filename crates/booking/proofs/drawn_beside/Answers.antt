use Prim.Native.Nat.{◌<◌}
use mathlib.Core.Path.{◌∙◌}
use native.Mathlib.Omega.{arith}
use Rattle.booking.proofs.Figures.{figure_laws}
use Rattle.booking.proofs.Drawn.{drawn_flat, drawn_split, drawn_fans}
use Rattle.booking.proofs.drawn_beside.Goals as goal

pub returns-then-d2-eq0 : goal.returns-then-d2-eq0
returns-then-d2-eq0 c = drawn_flat c.args.d1 c.args.d2 c.if-d2-eq0.true c.requires.1

pub returns-then-f-gt1 : goal.returns-then-f-gt1
returns-then-f-gt1 c = let a = c.args in
    let f = c.figures_of-f.ensures in
    let p : 0 < a.d2 = omega arith in
    let g = f.end_is ∙ (figure_laws a.d1 a.d2 p c.requires.0).end in
    let D = drawn_split a.d1 a.d2 p c.requires.0 c.requires.1 (omega (arith, g)) in
    (f.triangles_are ∙ D.0, omega (arith, f.triangles_are, D.1))

pub returns : goal.returns
returns c = let a = c.args in
    let f = c.figures_of-f.ensures in
    let p : 0 < a.d2 = omega arith in
    let g = f.end_is ∙ (figure_laws a.d1 a.d2 p c.requires.0).end in
    drawn_fans a.d1 a.d2 p c.requires.0 c.requires.1 (omega (arith, g))
