use native.Mathlib.Omega.{arith}
use mathlib.Core.Path.{refl, ◌∙◌}
use Rattle.cell.proofs.Route.{first_at, fits}
use Rattle.cell.proofs.steps.onto.Goals as goal

pub overflow_add-result : goal.overflow_add-result
overflow_add-result c = omega (arith, c.route-first.ensures, first_at c.requires.routed c.args.g c.requires.spot.half_lt, fits c.requires.routed c.args.g c.requires.spot.half_lt c.args.u c.requires.spot.index_lt)

pub returns : goal.returns
returns c = record { half_is = refl; index_is = refl; number_is = rw (c.route-first.ensures ∙ first_at c.requires.routed c.args.g c.requires.spot.half_lt) refl }
