use native.Mathlib.Omega.{arith}
use mathlib.Core.Path.{refl, subst}
use Rattle.listing.specs.Listing.{Listed}
use Rattle.listing.proofs.Bundles.{all_listed}
use Rattle.listing.proofs.list.Goals as goal

pub returns-in-Ok : goal.returns-in-Ok
returns-in-Ok c = let T = c.in-Ok.ensures in all_listed c.args.bytes.now T.0 T.1 refl (omega arith)

pub returns-in-Err : goal.returns-in-Err
returns-in-Err c = let T = c.in-Err.ensures in
    subst (λ w. Listed c.args.bytes.now w c.put_refused.new.out c.put_refused.result) T.1 (all_listed c.args.bytes.now c.put_refused.ensures.stored (omega arith) T.0 (omega arith))
