use borrow.Author.Rules.{rules}
use Rattle.capi.proofs.Answers.{answers_are}
use Rattle.capi.proofs.Putting.{room_short, room_enough, answers_short}
use Rattle.capi.proofs.citternblaze_mesh.Goals as goal

pub returns-then-answer-lt-ANSWER_WORDS : goal.returns-then-answer-lt-ANSWER_WORDS
returns-then-answer-lt-ANSWER_WORDS c = record { answer = answers_short (search rules); area = room_short _ _ _ (search rules) }

pub returns : goal.returns
returns c = record { answer = answers_are c.mesh.ensures.answered c.put_answer.ensures; area = room_enough _ _ _ (search rules) c.mesh.ensures.area }
