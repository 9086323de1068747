use mathlib.Core.Path.{refl}
use Rattle.cell.specs.work.Round.{round_answer}
use Rattle.cell.proofs.answers.answer_of.Goals as goal

pub returns : goal.returns
unfolding round_answer
returns c = rw (c.type_of-t.ensures, c.crosses_of-x.ensures, c.crosses_of-y.ensures, c.crosses_of-z.ensures) refl
