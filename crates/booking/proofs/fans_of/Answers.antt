use mathlib.Core.Path.{sym, ◌∙◌}
use Rattle.booking.proofs.Sums.{walk-it, book_sums, book_it}
use Rattle.booking.proofs.fans_of.Goals as goal

pub returns-then-not-is_level-clause-fans : goal.returns-then-not-is_level-clause-fans
returns-then-not-is_level-clause-fans c = walk-it c.args.counts (sym c.is_level.ensures ∙ c.if-not-is_level.true)

pub from_sums-requires : goal.from_sums-requires
from_sums-requires c = let x = c.sum_of-x.ensures in
    let y = c.sum_of-y.ensures in
    let z = c.sum_of-z.ensures in
    book_sums c.args.counts (sym c.is_level.ensures ∙ c.if-not-is_level.false) _ _ _ x.0 y.0 z.0 x.1 y.1 z.1

pub returns-clause-fans : goal.returns-clause-fans
returns-clause-fans c =
    c.from_sums.ensures.0
    ∙ book_it c.args.counts (sym c.is_level.ensures ∙ c.if-not-is_level.false) _ _ _
    c.sum_of-x.ensures.0 c.sum_of-y.ensures.0 c.sum_of-z.ensures.0
