use Rattle.std.proofs.Common.{arith, refl}
use Rattle.bundle.proofs.OneRecord.{unknown_length}
use Rattle.bundle.proofs.kinds.KindTryFromU16.try_from.Goals as goal

pub returns-in_default : goal.returns-in_default
returns-in_default c = (refl, unknown_length _ (λ e. omega arith) (λ e. omega arith) (λ e. omega arith) (λ e. omega arith) (λ e. omega arith))
