use mathlib.Core.Path.{ap, ap₂, ◌∙◌}
use lib.Ieee.{of_bits, of_int}
use Rattle.place.specs.declared.Place.{Place}
use Rattle.place.specs.Place.{float_of, added, divided}
use Rattle.cell.specs.Middles.{corner_place}
use Rattle.cell.proofs.nests.half_along.Goals as goal

pub corner_place-p-requires : goal.corner_place-p-requires
corner_place-p-requires c = c.low_end.ensures.1

pub corner_place-q-requires : goal.corner_place-q-requires
corner_place-q-requires c = c.high_end.ensures.1

pub returns : goal.returns
unfolding of_bits of_int
returns c = let a = c.args in
    c.over.ensures
    ∙ ap (λ (x : Place). divided x (float_of 2)) (c.plus.ensures
    ∙ ap₂ added (c.corner_place-p.ensures ∙ ap (corner_place a.nodes.now a.c) c.low_end.ensures.0) (c.corner_place-q.ensures ∙ ap (corner_place a.nodes.now a.c) c.high_end.ensures.0))
