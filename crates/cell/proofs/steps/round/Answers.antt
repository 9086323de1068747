use native.Mathlib.Omega.{arith}
use mathlib.Core.Path.{refl}
use Rattle.cell.proofs.Ready.{spot, leads, turn_count, over_to, on_to}
use Rattle.cell.proofs.steps.round.Goals as goal

pub overflow_sub-n : goal.overflow_sub-n
overflow_sub-n c = omega (arith, c.route-n.ensures, turn_count c.requires.routed c.requires.turns, c.requires.turns.room)

pub overflow_sub-n-then-over : goal.overflow_sub-n-then-over
overflow_sub-n-then-over c = omega (arith, c.route-n.ensures, turn_count c.requires.routed c.requires.turns, c.requires.turns.room)

pub onto-requires : goal.onto-requires
onto-requires c = record { routed = c.requires.routed; spot = spot refl (over_to c.requires.routed c.requires.turns c.if-over.true _ c.route-n.ensures) }

pub returns-then-over : goal.returns-then-over
returns-then-over c = leads refl (over_to c.requires.routed c.requires.turns c.if-over.true _ c.route-n.ensures) c.requires.turns.told c.onto.ensures

pub returns : goal.returns
returns c = leads refl (on_to c.requires.routed c.requires.turns c.if-over.false) c.requires.turns.told c.onto-2.ensures
