use mathlib.Core.Path.{sym}
use native.Mathlib.Omega.{arith}
use Rattle.flat.proofs.Rule.{largest_ab, largest_ac, largest_bc}
use Rattle.flat.proofs.join.largest_of.Goals as goal

pub returns-then-y-z : goal.returns-then-y-z
returns-then-y-z c = (sym (largest_bc _ _ _ (omega arith) (omega arith)), omega arith)

pub returns-else-y-z : goal.returns-else-y-z
returns-else-y-z c = (sym (largest_ac _ _ _ (omega arith) (omega arith)), omega arith)

pub returns-then-x-z : goal.returns-then-x-z
returns-then-x-z c = (sym (largest_bc _ _ _ (omega arith) (omega arith)), omega arith)

pub returns-else-x-z : goal.returns-else-x-z
returns-else-x-z c = (sym (largest_ab _ _ _ (omega arith) (omega arith)), omega arith)
