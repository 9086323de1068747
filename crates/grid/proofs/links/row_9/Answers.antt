use mathlib.Core.Path.{◌∙◌, refl}
use native.Mathlib.Omega.{arith}
use borrow.Author.Count.{below_more}
use Rattle.counting.proofs.Search.{found_end, found_hit}
use Rattle.grid.proofs.Ring.{may_split, split_single, split_told, under_more}
use Rattle.grid.proofs.links.row_9.Goals as goal

pub loop-e-preserved-then-d-eq1 : goal.loop-e-preserved-then-d-eq1
loop-e-preserved-then-d-eq1 c = (below_more _ _ c.loop-e.invariant.0 (split_single c.requires (omega arith) refl _ refl c.if-d-eq1.true _ c.loop-e.invariant.1 c.loop-e.invariant.2), c.loop-e.invariant.1, record { at = λ d. omega (arith, c.loop-e.invariant.2.at d) })

pub split_at-requires : goal.split_at-requires
split_at-requires c = may_split c.requires (omega arith) refl _ refl _ c.loop-e.invariant.1 c.loop-e.invariant.2

pub returns-then-split_at : goal.returns-then-split_at
returns-then-split_at c = found_hit _ _ _ (omega arith) (split_told c.requires (omega arith) refl c.split_at.ensures.reached c.split_at.ensures.value ∙ c.if-split_at.true) c.loop-e.invariant.0

pub loop-e-preserved : goal.loop-e-preserved
loop-e-preserved c = let a = c.split_at.ensures in
    (below_more _ _ c.loop-e.invariant.0 (split_told c.requires (omega arith) refl a.reached a.value ∙ c.if-split_at.false), a.reached.same ∙ c.loop-e.invariant.1, under_more c.loop-e.invariant.2 a.reached)

pub returns : goal.returns
returns c = found_end _ _ (λ i h. c.loop-e.invariant.0 i (omega arith))
