use Rattle.direct.proofs.Putting.{two_stored, under_none, under_place, under_long, under_more, under_all}
use mathlib.Core.Path.{refl}
use native.Mathlib.Omega.{arith}
use Rattle.direct.proofs.level.LevelCell.put_fours.Goals as goal

pub loop-i-init : goal.loop-i-init
loop-i-init c = under_none _ _ _

pub number_in-g0-requires : goal.number_in-g0-requires
number_in-g0-requires c = c.requires.long.0 _ (omega (arith, c.loop-i-test))

pub number_in-g1-requires : goal.number_in-g1-requires
number_in-g1-requires c = c.requires.long.1 _ (omega (arith, c.loop-i-test))

pub number_in-g2-requires : goal.number_in-g2-requires
number_in-g2-requires c = c.requires.long.2 _ (omega (arith, c.loop-i-test))

pub number_in-g3-requires : goal.number_in-g3-requires
number_in-g3-requires c = c.requires.long.3 _ (omega (arith, c.loop-i-test))

pub half0_of-t-requires : goal.half0_of-t-requires
half0_of-t-requires c = (c.args.loops.slots.0, c.args.loops.slots.1)

pub half1_of-u-requires : goal.half1_of-u-requires
half1_of-u-requires c = (c.args.loops.slots.2, c.args.loops.slots.3)

pub put-requires : goal.put-requires
put-requires c = omega (arith, under_place c.loop-i.invariant 2 (λ i. refl), under_long c.loop-i.invariant, c.requires.n_in_bounds, c.loop-i-test)

pub put-requires-in-loop-i : goal.put-requires-in-loop-i
put-requires-in-loop-i c = omega (arith, under_place c.loop-i.invariant 2 (λ i. refl), under_long c.loop-i.invariant, c.requires.n_in_bounds, c.loop-i-test, c.put.auto.area)

pub overflow_add-j-in-loop-i : goal.overflow_add-j-in-loop-i
overflow_add-j-in-loop-i c = omega (arith, c.well_formed, under_place c.loop-i.invariant 2 (λ i. refl), c.requires.n_in_bounds, c.loop-i-test)

pub overflow_add-j : goal.overflow_add-j
overflow_add-j c = omega (arith, c.well_formed, under_place c.loop-i.invariant 2 (λ i. refl), c.requires.n_in_bounds, c.loop-i-test)

pub loop-i-preserved : goal.loop-i-preserved
loop-i-preserved c = under_more c.loop-i.invariant (rw (c.number_in-g0.ensures, c.number_in-g1.ensures, c.number_in-g2.ensures, c.number_in-g3.ensures) refl) (two_stored _ _ _ _ c.put.ensures c.put-in-loop-i.ensures c.half0_of-t.ensures c.half1_of-u.ensures) (omega arith)

pub shape_of-area : goal.shape_of-area
shape_of-area c = under_long c.loop-i.invariant

pub returns : goal.returns
returns c = under_all c.loop-i.invariant _ (omega arith)
