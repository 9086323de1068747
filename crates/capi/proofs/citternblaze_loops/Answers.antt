use mathlib.Core.Path.{◌∙◌}
use Rattle.capi.proofs.Answers.{answers_are, loops_read}
use Rattle.capi.proofs.citternblaze_loops.Goals as goal

pub returns : goal.returns
returns c = answers_are (loops_read _ ∙ c.loops.ensures) c.put_answer.ensures
