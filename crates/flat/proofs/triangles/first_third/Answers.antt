use mathlib.Core.Path.{refl}
use native.Mathlib.Omega.{arith}
use borrow.Author.Count.{below_more}
use Rattle.counting.proofs.Search.{found_end, found_hit}
use Rattle.flat.proofs.Keys.{twice_hit, twice_miss, twice_none}
use Rattle.flat.proofs.triangles.first_third.Goals as goal
use Rattle.flat.proofs.triangles.first_third.Goals.{else-p-ne0-via-then-p-ne0+else-prev-p-ne0, else-p-ne0-via-else-p-ne0}

pub returns-then-prev-p-ne0 : goal.returns-then-prev-p-ne0
returns-then-prev-p-ne0 c = found_hit _ _ _ (omega arith) (twice_hit _ _ refl c.if-p-ne0.true c.if-prev-p-ne0.true) c.loop-j.invariant

pub loop-j-preserved : goal.loop-j-preserved
loop-j-preserved c = below_more _ _ c.loop-j.invariant (elim c.else-p-ne0.branch [
  | else-p-ne0-via-then-p-ne0+else-prev-p-ne0 w ↦ twice_miss _ _ refl w.if-prev-p-ne0.false
  | else-p-ne0-via-else-p-ne0 w ↦ twice_none _ _ refl w.if-p-ne0.false
])

pub returns : goal.returns
returns c = found_end _ _ (λ i h. c.loop-j.invariant i (omega arith))
