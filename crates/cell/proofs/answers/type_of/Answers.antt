use borrow.Author.Tests.{eq-eqb, ne_eqb}
use Prim.Native.Nat.{ℕ}
use mathlib.Core.Path.{ap}
use mathlib.Core.List.{[], ◌∷◌}
use Rattle.cell.specs.Loop.{type_by}
use Rattle.cell.proofs.answers.type_of.Goals as goal

pub returns-then-sum-eq0 : goal.returns-then-sum-eq0
unfolding type_by
returns-then-sum-eq0 c = simp (eq-eqb _ _ c.if-sum-eq0.true)

pub returns-then-sum-eq2 : goal.returns-then-sum-eq2
unfolding type_by
returns-then-sum-eq2 c = simp (ne_eqb _ _ c.if-sum-eq0.false, eq-eqb _ _ c.if-sum-eq2.true) (ap (λ (x : ℕ). 2 ∷ x ∷ []) c.node_with.ensures)

pub returns-then-sum-eq3 : goal.returns-then-sum-eq3
unfolding type_by
returns-then-sum-eq3 c = simp (ne_eqb _ _ c.if-sum-eq0.false, ne_eqb _ _ c.if-sum-eq2.false, eq-eqb _ _ c.if-sum-eq3.true)

pub returns : goal.returns
unfolding type_by
returns c = simp (ne_eqb _ _ c.if-sum-eq0.false, ne_eqb _ _ c.if-sum-eq2.false, ne_eqb _ _ c.if-sum-eq3.false) (ap (λ (x : ℕ). 1 ∷ x ∷ []) c.node_with-2.ensures)
