use mathlib.Core.Path.{ap}
use native.Mathlib.Omega.{arith}
use lib.ListN.{length}
use Rattle.counting.proofs.Stored.{stored_one}
use Rattle.bundle.proofs.Writes.{bytes_wide, bytes_narrow}
use Rattle.bundle.proofs.writer.put_count.Goals as goal

pub put_word-requires : goal.put_word-requires
put_word-requires c = omega (arith, c.requires, ap length (bytes_wide _ c.if-count-ge-BYTE_VALUES.true))

pub returns-then-count-ge-BYTE_VALUES : goal.returns-then-count-ge-BYTE_VALUES
returns-then-count-ge-BYTE_VALUES c = rw (bytes_wide _ c.if-count-ge-BYTE_VALUES.true) c.put_word.ensures

pub bounds-area-at : goal.bounds-area-at
bounds-area-at c = omega (arith, c.requires, ap length (bytes_narrow _ c.if-count-ge-BYTE_VALUES.false))

pub returns : goal.returns
returns c = rw (bytes_narrow _ c.if-count-ge-BYTE_VALUES.false) (stored_one _ _ _)
