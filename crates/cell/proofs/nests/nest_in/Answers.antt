use native.Mathlib.Omega.{arith}
use mathlib.Core.Path.{sym}
use Rattle.cell.specs.Of.{count_of}
use Rattle.cell.proofs.Nesting.{none_by_few}
use Rattle.cell.proofs.nests.nest_in.Goals as goal

pub returns-then-n-lt16 : goal.returns-then-n-lt16
returns-then-n-lt16 c = sym (none_by_few (count_of c.args.c) (omega (arith, c.requires)))
