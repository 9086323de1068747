use borrow.Author.Tests.{le-leb, lt-leb}
use Rattle.bundle.specs.Written.{kind_for}
use Rattle.bundle.proofs.writer.kind_for.Goals as goal

pub returns-then-count-ge-BYTE_VALUES : goal.returns-then-count-ge-BYTE_VALUES
unfolding kind_for
returns-then-count-ge-BYTE_VALUES c = simp (le-leb _ _ c.if-count-ge-BYTE_VALUES.true)

pub returns-else-count-ge-BYTE_VALUES : goal.returns-else-count-ge-BYTE_VALUES
unfolding kind_for
returns-else-count-ge-BYTE_VALUES c = simp (lt-leb _ _ c.if-count-ge-BYTE_VALUES.false)
