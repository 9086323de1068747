use borrow.Author.Rules.{rules}
use Rattle.capi.proofs.Putting.{answers_short, answers_put, stored_copied}
use Rattle.capi.proofs.put.Goals as goal

pub returns-then-answer-lt-ANSWER_WORDS : goal.returns-then-answer-lt-ANSWER_WORDS
returns-then-answer-lt-ANSWER_WORDS c = answers_short (search rules)

pub returns : goal.returns
returns c = answers_put (stored_copied c.args.answer.now c.args.numbers.now (search rules) c.copy_from_slice.ensures.after) (search rules) (search rules)
