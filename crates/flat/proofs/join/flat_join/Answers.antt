use mathlib.Core.Path.{◌∙◌, sym}
use Rattle.flat.proofs.Triangle.{told_before}
use Rattle.flat.proofs.Squeeze.{three_rule}
use Rattle.flat.proofs.join.flat_join.Goals as goal

pub returns-in-None : goal.returns-in-None
returns-in-None c = c.face_join.ensures ∙ sym (told_before _ _ _ (three_rule _ _ _ (sym c.in-None.ensures.value)) _ _)

pub join_left-requires : goal.join_left-requires
join_left-requires c = record { is = c.in-Some.ensures.value; edge = c.in-Some.ensures.edge }
