use mathlib.Core.Path.{◌∙◌, sym}
use native.Mathlib.Omega.{arith}
use Rattle.flat.proofs.Squeeze.{lessened_three, lessened_largest}
use Rattle.flat.proofs.join.lessened_edge.Goals as goal

pub returns-then-x-y : goal.returns-then-x-y
returns-then-x-y c = record {
  value = sym (lessened_three _ _ _ (λ t. (let o = t.odd in let f = t.first in let s = t.second in let h = t.third in grind arith)));
  edge = tt;
}

pub returns-else-x-y : goal.returns-else-x-y
returns-else-x-y c = record {
  value = c.largest_of.ensures.0 ∙ sym (lessened_largest _ _ _ (record { odd = grind arith; first = grind arith; second = grind arith; third = grind arith }));
  edge = c.largest_of.ensures.1;
}
