use mathlib.Core.Path.{◌∙◌, sym}
use native.Mathlib.Omega.{arith}
use borrow.Author.Count.{below_more}
use Rattle.counting.proofs.Search.{found_end, found_hit}
use Rattle.flat.proofs.triangles.row_3.Goals as goal

pub returns-then-bad_triangle : goal.returns-then-bad_triangle
returns-then-bad_triangle c = record {
  value = found_hit _ _ _ (omega arith) (sym c.bad_triangle.ensures ∙ c.if-bad_triangle.true) c.loop-f.invariant;
  small = λ i. omega (arith, c.type_inv.triangles i);
}

pub loop-f-preserved : goal.loop-f-preserved
loop-f-preserved c = below_more _ _ c.loop-f.invariant (sym c.bad_triangle.ensures ∙ c.if-bad_triangle.false)

pub returns : goal.returns
returns c = record { value = found_end _ _ (λ i h. c.loop-f.invariant i (omega arith)); small = λ i. omega (arith, c.type_inv.triangles i) }
