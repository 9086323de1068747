use Rattle.cell.specs.Words.{corner_words}
use native.Mathlib.Omega.{arith}
use mathlib.Core.Path.{◌≡◌}
use Prim.Native.Nat.{suc, ◌+◌}
use Rattle.cell.proofs.words.put_corners.Goals as goal

pub returns : goal.returns
unfolding corner_words
returns c = let e : c.args.at + 2 ≡ suc (suc c.args.at) = omega arith in
    rw (e, c.put_two.ensures, c.corner_word-3.ensures, c.corner_word-2.ensures, c.corner_word.ensures)
