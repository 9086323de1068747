use borrow.Author.Rules.{rules}
use mathlib.Core.Path.{refl, ap}
use Rattle.counting.proofs.Stored.{stored_as, stored_then}
use Rattle.listing.specs.Text.{refused_line}
use Rattle.listing.proofs.lines.put_refused.Goals as goal

pub returns : goal.returns
unfolding refused_line
returns c = record {
  stored = stored_as (stored_then (stored_then c.put_named-a.ensures.stored c.put_named-b.ensures.stored) c.put.ensures) (ap (λ n. refused_line n c.args.refusal.place) c.number.ensures) refl;
  few = search rules;
}
