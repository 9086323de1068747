use Rattle.capi.proofs.Answers.{answers_are}
use Rattle.capi.proofs.citternblaze_record.Goals as goal

pub returns : goal.returns
returns c = answers_are c.record_at.ensures c.put_answer.ensures
