use native.Mathlib.Omega.{arith}
use Rattle.listing.proofs.Digits.{decimal_64}
use Rattle.counting.proofs.Stored.{stored_then}
use Rattle.listing.specs.Text.{with_label}
use Rattle.listing.proofs.text.put_named.Goals as goal

pub put_number-requires : goal.put_number-requires
put_number-requires c = omega (arith, decimal_64 c.args.n (omega arith))

pub returns : goal.returns
unfolding with_label
returns c = record { stored = stored_then c.put-end.ensures c.put_number.ensures; few = omega (arith, decimal_64 c.args.n (omega arith)) }
