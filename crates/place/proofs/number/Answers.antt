use Rattle.std.proofs.Common.{sym, ap, ◌∙◌, arith}
use Rattle.std.specs.Option.{unwrap_or}
use lib.ListN.{get_or-eq_default}
use lib.Ieee.{nan, of_bits}
use Rattle.place.proofs.number.Goals as goal

pub returns-then-list-k : goal.returns-then-list-k
unfolding of_bits
returns-then-list-k c = sym (get_or-eq_default c.args.list.now nan (omega (arith, c.if-list-k.true)))

pub returns : goal.returns
unfolding of_bits
returns c = c.unwrap_or.ensures ∙ ap (λ o. unwrap_or o nan) c.copied.ensures ∙ c.get.ensures.lookup.4 (omega arith) nan
