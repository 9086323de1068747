use Prim.Native.Nat.{◌+◌}
use native.Mathlib.Nat.{zero-add}
use native.Mathlib.Omega.{arith}
use lib.ListN.{get_or}
use Rattle.counting.specs.Lists.{over}
use Rattle.counting.proofs.Stored.{stored_none, stored_more, stored_long}
use Rattle.bundle.specs.Written.{word_bytes}
use Rattle.bundle.proofs.Writes.{length_list}
use Rattle.bundle.proofs.writer.put_words.Goals as goal

pub loop-word-init : goal.loop-word-init
unfolding over
loop-word-init c = stored_none _ _

pub put_word-next-requires : goal.put_word-next-requires
put_word-next-requires c = let p = c.loop-word.invariant in omega (arith, c.requires, stored_long p, p.after, length_list c.args.words.now 0 c.loop-word.word-index)

pub loop-word-preserved : goal.loop-word-preserved
loop-word-preserved c =
    let l = c.loop-word in
    stored_more (λ i. word_bytes (get_or c.args.words.now (0 + i) 0)) l.word-index l.invariant (rw (zero-add l.word-index) c.put_word-next.ensures)
