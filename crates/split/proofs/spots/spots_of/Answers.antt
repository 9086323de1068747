use mathlib.Core.Path.{refl}
use native.Mathlib.Omega.{arith}
use Rattle.split.proofs.Nested.{left_some}
use Rattle.split.proofs.OneCell.{drawn_left}
use Rattle.split.proofs.Spotted.{drawn_sound, numbers_most, figures_fit, figures_few, spots_are}
use Rattle.split.proofs.spots.spots_of.Goals as goal

pub of-s-requires : goal.of-s-requires
of-s-requires c = let D = c.requires in record { sound = drawn_sound D.drawable D.splits_nonzero; spiral = left_some (drawn_left D.drawable D.splits_nonzero) D.splits_nonzero }

pub overflow_cast-s : goal.overflow_cast-s
overflow_cast-s c = let D = c.requires in omega (arith, numbers_most D.drawable D.splits_nonzero c.of-s.ensures.numbers)

pub overflow_cast-s-2 : goal.overflow_cast-s-2
overflow_cast-s-2 c = let D = c.requires in omega (arith, numbers_most D.drawable D.splits_nonzero c.of-s.ensures.numbers)

pub overflow_sub-result : goal.overflow_sub-result
overflow_sub-result c = let D = c.requires in omega (arith, figures_fit D.drawable D.splits_nonzero c.of-s.ensures.numbers c.figures_of-g.ensures)

pub overflow_mul-result-2 : goal.overflow_mul-result-2
overflow_mul-result-2 c = let D = c.requires in omega (arith, figures_few D.drawable D.splits_nonzero c.of-s.ensures.numbers c.figures_of-g.ensures)

pub overflow_sub-result-2 : goal.overflow_sub-result-2
overflow_sub-result-2 c = let D = c.requires in omega (arith, figures_fit D.drawable D.splits_nonzero c.of-s.ensures.numbers c.figures_of-g.ensures)

pub returns : goal.returns
returns c = let D = c.requires in spots_are D.drawable D.splits_nonzero c.of-s.ensures.numbers c.figures_of-g.ensures refl refl
