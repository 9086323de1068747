use mathlib.Core.Path.{◌∙◌}
use Rattle.capi.proofs.Answers.{answers_are, booking_read}
use Rattle.capi.proofs.citternblaze_book.Goals as goal

pub returns : goal.returns
returns c = answers_are (booking_read _ ∙ c.book.ensures) c.put.ensures
