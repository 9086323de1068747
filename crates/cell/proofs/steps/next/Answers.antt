use native.Mathlib.Omega.{arith}
use Rattle.face.specs.declared.Stand.TheVariants.{Low, High, Up, Down, Alone}
use Rattle.face.proofs.Stands.{stands}
use Rattle.cell.proofs.Ready.{count_is, index_small, upper_fits, stands_low, stands_high, stands_up, stands_down, stands_alone}
use Rattle.cell.proofs.steps.next.Goals as goal

pub overflow_sub-n : goal.overflow_sub-n
overflow_sub-n c = omega (arith, c.route-n.ensures, c.route-high.ensures, upper_fits c.requires)

pub below-requires : goal.below-requires
below-requires c = record { ready = c.requires; at_low = stands_low c.requires c.route-n.ensures c.route-low.ensures c.route-high.ensures (stands _ _ _ Low c.stand_of.ensures c.in-Low.is) }

pub overflow_sub-n-in-High : goal.overflow_sub-n-in-High
overflow_sub-n-in-High c = omega (arith, c.route-n.ensures, count_is c.requires, c.requires.dart.index_lt)

pub overflow_sub-n-in-High-2 : goal.overflow_sub-n-in-High-2
overflow_sub-n-in-High-2 c = omega (arith, c.route-n.ensures, count_is c.requires, c.requires.dart.index_lt)

pub above-requires : goal.above-requires
above-requires c = record { ready = c.requires; at_high = stands_high c.requires c.route-n.ensures c.route-low.ensures c.route-high.ensures (stands _ _ _ High c.stand_of.ensures c.in-High.is) }

pub overflow_add-t : goal.overflow_add-t
overflow_add-t c = omega (arith, index_small c.requires)

pub beside-requires : goal.beside-requires
beside-requires c = let s = (stands _ _ _ Up c.stand_of.ensures c.in-Up.is) in record { ready = c.requires; beside = stands_up c.requires c.route-n.ensures c.route-low.ensures c.route-high.ensures s.0 s.1 }

pub overflow_sub-t : goal.overflow_sub-t
overflow_sub-t c = omega (arith, (stands _ _ _ Down c.stand_of.ensures c.in-Down.is).2)

pub beside-requires-in-Down : goal.beside-requires-in-Down
beside-requires-in-Down c = let s = (stands _ _ _ Down c.stand_of.ensures c.in-Down.is) in record { ready = c.requires; beside = stands_down c.requires c.route-n.ensures c.route-low.ensures c.route-high.ensures s.0 s.1 s.2 }

pub returns-in-Alone : goal.returns-in-Alone
returns-in-Alone c = let s = (stands _ _ _ Alone c.stand_of.ensures c.in-Alone.is) in stands_alone c.requires c.route-n.ensures c.route-low.ensures c.route-high.ensures s.0 s.1 s.2
