use mathlib.Core.Path.{refl, ap, ◌∙◌}
use native.Mathlib.Omega.{arith}
use lib.ListN.{length}
use Rattle.counting.proofs.Stored.{stored_as}
use Rattle.listing.proofs.Digits.{printed}
use Rattle.listing.proofs.text.put_number.Goals as goal

pub put-requires : goal.put-requires
put-requires c = omega (arith, ap length (c.as_bytes.ensures.value ∙ c.format.ensures.text ∙ printed c.args.n (omega arith)))

pub returns : goal.returns
returns c = stored_as c.put.ensures (c.as_bytes.ensures.value ∙ c.format.ensures.text ∙ printed c.args.n (omega arith)) refl
