use borrow.Author.Rules.{rules}
use Rattle.counting.proofs.Stored.{stored_then}
use Rattle.listing.specs.Text.{head}
use Rattle.listing.proofs.lines.put_head.Goals as goal

pub returns : goal.returns
unfolding head
returns c = record { stored = stored_then (stored_then (stored_then (stored_then c.put_named-a.ensures.stored c.put_named-b.ensures.stored) c.put_named-c.ensures.stored) c.put_named-d.ensures.stored) c.put.ensures; few = search rules }
