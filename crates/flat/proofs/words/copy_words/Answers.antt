use mathlib.Core.Path.{◌≡◌, ◌∙◌, refl}
use native.Mathlib.Omega.{arith}
use lib.ListN.{length}
use Rattle.counting.proofs.Stored.{filled_more, filled_none}
use Rattle.flat.proofs.words.copy_words.Goals as goal

pub loop-i-init : goal.loop-i-init
loop-i-init c = filled_none _ _

pub loop-i-preserved : goal.loop-i-preserved
loop-i-preserved c = filled_more _ _ _ _ _ c.loop-i.invariant refl

pub returns : goal.returns
returns c = let z : c.loop-i.i ≡ length c.args.words.now = omega arith in c.loop-i.invariant ∙ rw z
