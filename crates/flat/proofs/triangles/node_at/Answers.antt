use Prim.Native.Nat.{◌*◌, ◌+◌}
use mathlib.Core.Path.{refl}
use native.Mathlib.Omega.{arith}
use Rattle.flat.proofs.triangles.node_at.Goals as goal

pub returns : goal.returns
returns c = let c-args = c.args in record { value = refl; upper_bound = omega (arith, c.type_inv.triangles (3 * c-args.f + c-args.i)) }
