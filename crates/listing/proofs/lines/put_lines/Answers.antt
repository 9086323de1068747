use borrow.Author.Rules.{rules}
use native.Mathlib.Omega.{arith}
use mathlib.Core.Path.{refl, ap}
use Rattle.counting.specs.Lists.{over}
use Rattle.counting.proofs.Stored.{stored_none, stored_as, stored_more}
use Rattle.listing.specs.Text.{line}
use Rattle.listing.proofs.lines.put_lines.Goals as goal

pub loop-t-init : goal.loop-t-init
unfolding over
loop-t-init c = (search rules, search rules, stored_none _ _)

pub loop-t-preserved : goal.loop-t-preserved
loop-t-preserved c = (search rules, search rules, stored_more (line c.args.area.now) _ c.loop-t.invariant.2 c.put_line-end.ensures.stored)

pub returns : goal.returns
returns c = record { stored = stored_as c.loop-t.invariant.2 (ap (λ k. over (line c.args.area.now) k 0) (omega arith)) refl; few = search rules }
