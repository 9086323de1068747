use mathlib.Core.Path.{sym, ap, ◌∙◌}
use Rattle.nearest.specs.Answer.{nearest_numbers, measured_numbers}
use Rattle.nearest.proofs.Claims.{point_reads}
use Rattle.capi.proofs.Answers.{answers_are}
use Rattle.capi.proofs.citternblaze_nearest.Goals as goal

-- a distance is a number
pub float_to_bits-d : goal.float_to_bits-d
float_to_bits-d c = (point_reads _ _ _ _ (ap nearest_numbers (sym c.in-Ok-At.field-0-is) ∙ ap measured_numbers (sym c.in-Ok-At.is) ∙ c.nearest_point.ensures)).0

pub returns-in-Ok-At : goal.returns-in-Ok-At
returns-in-Ok-At c = answers_are (point_reads _ _ _ _ (ap nearest_numbers (sym c.in-Ok-At.field-0-is) ∙ ap measured_numbers (sym c.in-Ok-At.is) ∙ c.nearest_point.ensures)).1 c.put-in-Ok-At.ensures
