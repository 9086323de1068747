use native.Mathlib.Omega.{arith}
use Prim.Native.Nat.{suc, ◌+◌, ◌*◌}
use mathlib.Core.Path.{◌≡◌, refl}
use Rattle.cell.proofs.routes.put_front.Goals as goal

pub returns : goal.returns
returns c = let h = c.args.h in
    let o : 9 * h + 0 ≡ 9 * h = omega arith in
    let p : 9 * h + 1 ≡ suc (9 * h) = omega arith in
    let q : 9 * h + 2 ≡ suc (suc (9 * h)) = omega arith in
    let r : 9 * h + 3 ≡ suc (suc (suc (9 * h))) = omega arith in
    let s : 9 * h + 4 ≡ suc (suc (suc (suc (9 * h)))) = omega arith in
    rw (o, p, q, r, s) refl
