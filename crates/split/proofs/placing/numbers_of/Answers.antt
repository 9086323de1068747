use native.Mathlib.Omega.{arith}
use Rattle.split.proofs.Arms.{numbers_four}
use Rattle.split.proofs.placing.numbers_of.Goals as goal

pub returns : goal.returns
returns c = numbers_four c.args.at (omega arith)
