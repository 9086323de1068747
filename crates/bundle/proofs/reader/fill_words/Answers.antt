use Prim.Native.Nat.{◌+◌, ◌*◌}
use mathlib.Core.Path.{◌≡◌, refl}
use mathlib.Core.List.{[], ◌∷◌}
use native.Mathlib.Omega.{arith}
use Rattle.counting.specs.Lists.{over}
use Rattle.counting.proofs.Stored.{stored_one, stored_more}
use Rattle.bundle.specs.Record.{word_size, word}
use Rattle.bundle.proofs.reader.fill_words.Goals as goal

pub loop-i-init : goal.loop-i-init
unfolding over
loop-i-init c = (omega arith, record { area = refl; after = refl })

pub loop-i-preserved : goal.loop-i-preserved
loop-i-preserved c = let l = c.loop-i in
    let a = c.args in
    let e : a.at + l.i + 1 ≡ a.at + (l.i + 1) = omega arith in
    (omega arith, stored_more (λ i. word a.body.now (word_size * i) ∷ []) l.i l.invariant.1 (rw (← e, ← c.word_at.ensures) (stored_one l.list (a.at + l.i) c.word_at.result)))
