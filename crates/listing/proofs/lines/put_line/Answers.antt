use Rattle.counting.proofs.Stored.{stored_then}
use Rattle.listing.specs.Text.{line}
use borrow.Author.Rules.{rules}
use Rattle.listing.proofs.lines.put_line.Goals as goal

pub returns : goal.returns
unfolding line
returns c = record { stored = stored_then (stored_then c.put-a.ensures c.put_words-b.ensures.stored) c.put.ensures; few = search rules }
