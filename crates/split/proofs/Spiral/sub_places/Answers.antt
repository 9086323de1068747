use mathlib.Core.Path.{ap, ◌∙◌}
use Rattle.slots.specs.Slots.{position}
use Rattle.split.specs.Standing.{corner_in, sub_places}
use Rattle.split.proofs.Arms.{four_places}
use Rattle.split.proofs.Spiral.sub_places.Goals as goal

pub returns : goal.returns
unfolding sub_places
returns c = let at = c.args.at in
    let e = c.place_of-p.ensures.0 in
    four_places c.new_place-a.ensures
    (ap (corner_in at) (c.position.ensures.0 ∙ ap (λ p. position p 0) e))
    (ap (corner_in at) (c.position-2.ensures.0 ∙ ap (λ p. position p 1) e))
    (ap (corner_in at) (c.position-3.ensures.0 ∙ ap (λ p. position p 2) e))
