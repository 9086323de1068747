use Prim.Native.Nat.{◌<◌}
use mathlib.Core.Path.{refl, sym, ◌∙◌}
use native.Mathlib.Omega.{arith}
use Rattle.counting.proofs.Gcd.{gcd_pos}
use Rattle.booking.proofs.Figures.{figure_laws}
use Rattle.booking.proofs.Drawn.{short_not, equal_not, prime_not, gain_none, more_than, gain_some}
use Rattle.booking.proofs.gain_by.Goals as goal
use Rattle.booking.proofs.gain_by.Goals.{then-d2-lt2-via-then-d2-lt2, then-d2-lt2-via-else-d2-lt2+then-d2-d1}

pub returns-then-d2-lt2 : goal.returns-then-d2-lt2
returns-then-d2-lt2 c = gain_none _ _ (elim c.then-d2-lt2.branch [ then-d2-lt2-via-then-d2-lt2 w ↦ short_not _ _ w.if-d2-lt2.true | then-d2-lt2-via-else-d2-lt2+then-d2-d1 w ↦ equal_not _ _ w.if-d2-d1.true ]) c.no_gain.ensures

pub returns-then-f-eq1 : goal.returns-then-f-eq1
returns-then-f-eq1 c = let a = c.args in
    let g = c.figures_of-f.ensures.end_is ∙ (figure_laws a.d1 a.d2 (omega arith) (omega arith)).end in
    gain_none a.d1 a.d2 (prime_not a.d1 a.d2 (sym g ∙ c.if-f-eq1.true)) c.no_gain-then-f-eq1.ensures

pub overflow_sub-result : goal.overflow_sub-result
overflow_sub-result c = let a = c.args in
    let f = c.figures_of-f.ensures in
    let p : 0 < a.d2 = omega arith in
    let g = f.end_is ∙ (figure_laws a.d1 a.d2 p (omega arith)).end in
    omega (arith, f.triangles_are, more_than a.d1 a.d2 p (omega arith) (omega (arith, g, gcd_pos a.d1 a.d2 (omega arith))))

pub returns : goal.returns
returns c = let a = c.args in
    let f = c.figures_of-f.ensures in
    let p : 0 < a.d2 = omega arith in
    let g = f.end_is ∙ (figure_laws a.d1 a.d2 p (omega arith)).end in
    let s = gain_some a.d1 a.d2 p (omega arith) (omega (arith, g, gcd_pos a.d1 a.d2 (omega arith))) f.splits_are f.triangles_are refl in
    record { splits_are = s.0; more_is = s.1 }
