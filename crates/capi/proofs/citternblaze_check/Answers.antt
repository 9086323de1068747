use Rattle.capi.proofs.Answers.{answers_are}
use Rattle.capi.proofs.citternblaze_check.Goals as goal

pub returns : goal.returns
returns c = answers_are c.check.ensures c.put_answer.ensures
