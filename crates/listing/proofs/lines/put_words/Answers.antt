use borrow.Author.Rules.{rules}
use native.Mathlib.Omega.{arith}
use mathlib.Core.Path.{refl, ap}
use Rattle.counting.specs.Lists.{over}
use Rattle.counting.proofs.Stored.{stored_none, stored_as, stored_more}
use Rattle.listing.specs.Text.{word_at}
use Rattle.listing.proofs.lines.put_words.Goals as goal

pub loop-j-init : goal.loop-j-init
unfolding over
loop-j-init c = (search rules, search rules, stored_none _ _)

pub loop-j-preserved : goal.loop-j-preserved
unfolding word_at
loop-j-preserved c = (search rules, search rules, stored_more (word_at c.args.area.now c.args.t) _ c.loop-j.invariant.2 c.put_word-end.ensures.stored)

pub returns : goal.returns
returns c = record { stored = stored_as c.loop-j.invariant.2 (ap (λ k. over (word_at c.args.area.now c.args.t) k 0) (omega arith)) refl; few = search rules }
