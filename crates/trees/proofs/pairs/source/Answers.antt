use borrow.Author.Tests.{lt-ltb, le-ltb}
use Rattle.trees.specs.work.Planted.{source_at}
use Rattle.trees.proofs.pairs.source.Goals as goal

pub returns-then-tops-t-lt-MET : goal.returns-then-tops-t-lt-MET
unfolding source_at
returns-then-tops-t-lt-MET c = rw (lt-ltb _ _ c.if-tops-t-lt-MET.true)

pub returns-else-tops-t-lt-MET : goal.returns-else-tops-t-lt-MET
unfolding source_at
returns-else-tops-t-lt-MET c = rw (le-ltb _ _ c.if-tops-t-lt-MET.false)
