use mathlib.Core.Path.{◌∙◌}
use Rattle.capi.proofs.Answers.{answers_are, case_read}
use Rattle.capi.proofs.citternblaze_case.Goals as goal

pub returns : goal.returns
returns c = answers_are (case_read _ ∙ c.look_up.ensures) c.put.ensures
