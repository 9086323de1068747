use Prim.Native.Nat.{◌/◌}
use mathlib.Core.Path.{◌≡◌}
use native.Mathlib.Omega.{arith}
use lib.ListN.{length}
use Rattle.counting.proofs.Stored.{filled_more, filled_none}
use Rattle.flat.proofs.triangles.triangle_keys.Goals as goal

pub loop-f-init : goal.loop-f-init
loop-f-init c = filled_none _ _

pub loop-f-preserved : goal.loop-f-preserved
loop-f-preserved c = filled_more _ _ _ _ _ c.loop-f.invariant c.triangle_key.ensures

pub returns : goal.returns
returns c = let e : c.loop-f.f ≡ length c.args.triangles.now / 3 = omega arith in
    rw (← e) c.loop-f.invariant
