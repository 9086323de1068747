use borrow.Author.Rules.{rules}
use Rattle.capi.proofs.Answers.{answers_are}
use Rattle.capi.proofs.Putting.{room_short, room_enough, answers_short}
use Rattle.capi.proofs.citternblaze_bundle_read.Goals as goal

pub returns-then-answer-lt-ANSWER_WORDS : goal.returns-then-answer-lt-ANSWER_WORDS
returns-then-answer-lt-ANSWER_WORDS c = record { answer = answers_short (search rules); nodes = room_short _ _ _ (search rules); ends = room_short _ _ _ (search rules); counts = room_short _ _ _ (search rules) }

pub returns : goal.returns
returns c = record { answer = answers_are c.read.ensures.answer c.put_answer.ensures; nodes = room_enough _ _ _ (search rules) c.read.ensures.nodes; ends = room_enough _ _ _ (search rules) c.read.ensures.ends; counts = room_enough _ _ _ (search rules) c.read.ensures.counts }
