use borrow.Author.Rules.{rules}
use Rattle.capi.proofs.Answers.{answers_are}
use Rattle.capi.proofs.Putting.{room_short, room_enough, answers_short}
use Rattle.capi.proofs.citternblaze_set_count.Goals as goal

pub returns-then-answer-lt-ANSWER_WORDS : goal.returns-then-answer-lt-ANSWER_WORDS
returns-then-answer-lt-ANSWER_WORDS c = record { answer = answers_short (search rules); counts = room_short _ _ _ (search rules); starts = room_short _ _ _ (search rules) }

pub returns : goal.returns
returns c = record { answer = answers_are c.set_count-told.ensures.result_value c.put_answer.ensures; counts = room_enough _ _ _ (search rules) c.set_count-told.ensures.counts_after; starts = room_enough _ _ _ (search rules) c.set_count-told.ensures.starts_after }
