use borrow.Author.Rules.{rules}
use native.Mathlib.Omega.{arith}
use Rattle.listing.proofs.Digits.{decimal_32}
use mathlib.Core.Path.{refl}
use Rattle.counting.proofs.Stored.{stored_as, stored_then}
use Rattle.listing.proofs.Numbers.{no_word, some_word}
use Rattle.listing.proofs.text.put_word.Goals as goal

pub returns-then-word-eq-NO_NAME : goal.returns-then-word-eq-NO_NAME
returns-then-word-eq-NO_NAME c = record { stored = stored_as c.put.ensures (no_word _ c.if-word-eq-NO_NAME.true) refl; few = search rules }

pub put_number-requires : goal.put_number-requires
put_number-requires c = omega (arith, decimal_32 c.args.word (omega arith))

pub returns : goal.returns
returns c = let w = c.args.word in record { stored = stored_as (stored_then c.put-end.ensures c.put_number.ensures) (some_word w c.if-word-eq-NO_NAME.false) refl; few = omega (arith, decimal_32 w (omega arith)) }
