use Rattle.std.proofs.Common.{◌≡◌, ℕ, ◌-◌, length, get_or, sym, refl, ap, ◌∙◌, ap₂, arith}
use lib.ListN.{get_or-eq_default}
use lib.Ieee.{of_bits, of_int}
use Rattle.place.specs.declared.Place.{Place}
use Rattle.place.specs.Place.{float_of, divided, place_at, sum_to, middle}
use Rattle.place.proofs.Sums.{sum_one, sum_more}
use Rattle.place.proofs.middle_of.Goals as goal

pub returns-then-n-eq0 : goal.returns-then-n-eq0
unfolding middle sum_to of_bits of_int
returns-then-n-eq0 c = let a = c.args in let z : length a.points.now ≡ 0 = c.if-n-eq0.true in c.over.ensures ∙ ap (λ (x : Place). divided x (float_of 0)) (c.load.ensures ∙ ap (place_at a.list.now) (sym (get_or-eq_default a.points.now 0 (omega (arith, z))))) ∙ ap (λ n. middle (λ k. place_at a.list.now (get_or a.points.now k 0)) n) (sym z)

pub loop-i-init : goal.loop-i-init
loop-i-init c = let a = c.args in (refl, c.load-p.ensures ∙ sum_one (λ k. place_at a.list.now (get_or a.points.now k 0)))

pub loop-i-preserved : goal.loop-i-preserved
loop-i-preserved c = let a = c.args in let l = c.loop-i in (refl, c.plus-p.ensures ∙ sum_more (λ k. place_at a.list.now (get_or a.points.now k 0)) l.i (omega arith) l.invariant.1 c.load-in-loop-i.ensures)

pub returns : goal.returns
unfolding middle
returns c = let a = c.args in let l = c.loop-i in let p : ℕ → Place = λ k. place_at a.list.now (get_or a.points.now k 0) in let e : l.i ≡ length a.points.now = omega (arith, c.if-n-eq0.false) in c.over-2.ensures ∙ ap₂ divided (l.invariant.1 ∙ ap (λ k. sum_to p (k - 1)) e) c.nearest_u64_to_f64.ensures
