use Rattle.counting.proofs.Range.{after_last, after_on}
use mathlib.Core.Path.{sym, ◌∙◌}
use native.Mathlib.Numerals.{add-one}
use native.Mathlib.Omega.{arith}
use Rattle.cell.proofs.make.after_of.Goals as goal

pub returns-then-k-n : goal.returns-then-k-n
returns-then-k-n c = (sym (after_last c.args.n c.args.k (omega arith)), omega arith)

pub returns-else-k-n : goal.returns-else-k-n
returns-else-k-n c = (add-one c.args.k ∙ sym (after_on c.args.n c.args.k (omega arith)), omega arith)
