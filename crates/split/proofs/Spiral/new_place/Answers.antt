use mathlib.Core.Path.{ap, ap₂, ◌∙◌}
use lib.Ieee.{of_bits, of_int}
use Rattle.place.specs.declared.Place.{Place}
use Rattle.place.specs.Place.{float_of, added, divided, sum_to, middle}
use Rattle.split.specs.Standing.{new_place}
use Rattle.split.proofs.Spiral.new_place.Goals as goal

pub returns : goal.returns
unfolding new_place middle sum_to of_bits of_int
returns c =
    c.over.ensures
    ∙ ap (λ (x : Place). divided x (float_of 4))
    (c.plus-3.ensures
    ∙ ap₂ added
    (c.plus-2.ensures
    ∙ ap₂ added (c.plus.ensures ∙ ap₂ added c.labelled_at-i.ensures c.labelled_at-j.ensures) c.labelled_at-k.ensures)
    c.labelled_at-l.ensures)
