use Rattle.std.proofs.Common.{arith}
use Rattle.bundle.specs.work.Looked.{key_at}
use Rattle.bundle.proofs.looks.key_at.Goals as goal

pub returns : goal.returns
unfolding key_at
returns c = omega arith
