use Rattle.booking.proofs.Answers.{walk_from, booked_from}
use Rattle.booking.proofs.book.Goals as goal

pub returns-in_err-f : goal.returns-in_err-f
returns-in_err-f c = rw c.from_residual.ensures (walk_from _ c.in_err-f.ensures.fans)

pub returns : goal.returns
returns c = booked_from _ c.in_ok-f.ensures.fans c.drawn_beside.ensures.0
