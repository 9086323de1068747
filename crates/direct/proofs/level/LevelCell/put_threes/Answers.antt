use Rattle.direct.proofs.Putting.{under_none, under_place, under_long, under_more, under_all, one_words}
use mathlib.Core.Path.{refl, ◌∙◌}
use native.Mathlib.Omega.{arith}
use Rattle.direct.proofs.level.LevelCell.put_threes.Goals as goal

pub loop-i-init : goal.loop-i-init
loop-i-init c = under_none _ _ _

pub number_in-g0-requires : goal.number_in-g0-requires
number_in-g0-requires c = c.requires.long.0 _ (omega (arith, c.loop-i-test))

pub number_in-g1-requires : goal.number_in-g1-requires
number_in-g1-requires c = c.requires.long.1 _ (omega (arith, c.loop-i-test))

pub number_in-g2-requires : goal.number_in-g2-requires
number_in-g2-requires c = c.requires.long.2 _ (omega (arith, c.loop-i-test))

pub whole_of-t-requires : goal.whole_of-t-requires
whole_of-t-requires c = c.args.loops.slots

pub put-requires : goal.put-requires
put-requires c = omega (arith, under_place c.loop-i.invariant 1 (λ i. refl), under_long c.loop-i.invariant, c.requires.n_in_bounds, c.loop-i-test)

pub overflow_add-j : goal.overflow_add-j
overflow_add-j c = omega (arith, c.well_formed, under_place c.loop-i.invariant 1 (λ i. refl), c.requires.n_in_bounds, c.loop-i-test)

pub loop-i-preserved : goal.loop-i-preserved
loop-i-preserved c = under_more c.loop-i.invariant refl (one_words _ _ _ c.put.ensures (c.whole_of-t.ensures ∙ rw (c.number_in-g0.ensures, c.number_in-g1.ensures, c.number_in-g2.ensures) refl)) (omega arith)

pub shape_of-area : goal.shape_of-area
shape_of-area c = under_long c.loop-i.invariant

pub returns : goal.returns
returns c = under_all c.loop-i.invariant _ (omega arith)
