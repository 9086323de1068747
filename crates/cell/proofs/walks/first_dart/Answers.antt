use native.Mathlib.Omega.{arith}
use mathlib.Core.Path.{refl}
use Rattle.cell.proofs.Start.{located_lt, located_first, starts}
use Rattle.cell.proofs.walks.first_dart.Goals as goal

pub first_of-h-requires : goal.first_of-h-requires
first_of-h-requires c = located_lt c.requires

pub overflow_sub-result : goal.overflow_sub-result
overflow_sub-result c = omega (arith, c.route-first.ensures, located_first c.requires c.first_of-h.ensures.0 c.first_of-h.ensures.1)

pub returns : goal.returns
returns c = starts c.requires _ c.first_of-h.ensures.0 c.first_of-h.ensures.1 _ refl (rw c.route-first.ensures refl) refl
