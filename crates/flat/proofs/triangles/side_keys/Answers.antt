use Prim.Native.Nat.{◌*◌, ◌+◌, ◌/◌}
use mathlib.Core.Path.{◌∙◌, ◌≡◌, ap}
use native.Mathlib.Omega.{arith}
use lib.ListN.{length}
use Rattle.counting.proofs.Stored.{filled_block, filled_none, length_filled}
use Rattle.flat.proofs.triangles.side_keys.Goals as goal

pub loop-f-init : goal.loop-f-init
loop-f-init c = filled_none _ _

pub put_sides-requires : goal.put_sides-requires
put_sides-requires c = record { f_bound = omega arith; triangles_in_bounds = omega (arith, simp length_filled at (ap length c.loop-f.invariant)) }

pub loop-f-preserved : goal.loop-f-preserved
loop-f-preserved c = let i : 3 * (c.loop-f.f + 1) ≡ 3 * c.loop-f.f + 3 = omega arith in
    c.put_sides.ensures ∙ rw i (filled_block _ _ 3 _ _ c.loop-f.invariant)

pub returns : goal.returns
returns c = let e : c.loop-f.f ≡ length c.args.triangles.now / 3 = omega arith in
    rw (← e) c.loop-f.invariant
